use Rattle.std.proofs.Common.{◌∙◌, refl, ap}
use Rattle.std.specs.Prelude.{is_some}
use Rattle.facet_format.specs.Cursor.{no_memory_at}
use Rattle.facet_format.specs.Views.{span_of}
use Rattle.facet_json_reader.specs.PlaceViews.{language_of}
use Rattle.facet_json_parser.proofs.OpenedContainers.{opened-holds, opened-spot}
use Rattle.facet_json_parser.proofs.UnopenedContainers.{unopened-refused}
use Rattle.facet_json_parser.proofs.lookahead.Lookahead.begin.Goals as goal

pub returns-clause-refused : goal.returns-clause-refused
returns-clause-refused c =
    let found = rw c.in-Some.is at c.in_ok-held.ensures in
    let comes = found in
    let last = ap (λ s. no_memory_at (span_of s)) c.in-Err.ensures.last in
    let refused = unopened-refused c.args.input.now (language_of c.args.language) c.args.self.now c.in-Some.held _ (ap is_some c.requires.free) comes c.in-Err.ensures.contexts.1 (c.out_of_memory.ensures ∙ last) in
    (rw (c.in-Err.ensures.last, c.in-Err.ensures.stage, c.in-Err.ensures.contexts.0) refl, refused.1)

pub returns-in-Ok-clause-held : goal.returns-in-Ok-clause-held
returns-in-Ok-clause-held c =
    let found = rw c.in-Some.is at c.in_ok-held.ensures in
    let comes = found in
    let after = c.in-Ok.ensures in
    opened-holds c.args.self.now.reader c.open.new.self c.in-Some.held after.last after.stage after.contexts c.args.input.now (language_of c.args.language) comes

pub returns-in-Ok-clause-spot : goal.returns-in-Ok-clause-spot
returns-in-Ok-clause-spot c =
    let after = c.in-Ok.ensures in
    opened-spot c.args.self.now.reader c.open.new.self c.in-Some.held after.last after.stage after.contexts c.args.self.now refl (ap is_some c.requires.free)
