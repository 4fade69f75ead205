-- What is passed at once is the event that comes.
use Rattle.std.proofs.Common.{ap, sym, ◌∙◌}
use Rattle.std.specs.Option.{option_map}
use Rattle.facet_format.specs.Views.{span_of}
use Rattle.facet_json_reader.specs.PlaceViews.{language_of}
use Rattle.facet_json_reader.specs.Views.{passed_of}
use Rattle.facet_json_parser.proofs.LookaheadSteps.{passed-sound, passed-passes}
use Rattle.facet_json_parser.proofs.UnopenedContainers.{nothing_held}
use Rattle.facet_json_parser.proofs.lookahead.Lookahead.step.Goals as goal

pub returns-clause-sound : goal.returns-clause-sound
returns-clause-sound g c =
    let s = c.args.self.now in
    let none = ap (option_map passed_of) (nothing_held s.held (sym c.is_some.ensures ∙ c.if-is_some.false)) in
    passed-sound c.args.input.now (language_of c.args.language) (λ r. record { kind = g.W.Wanted.kind r.0; span = span_of r.1 }) s.reader c.pass.new.reader
    (option_map passed_of s.held) s.shown c.pass.result none c.requires.sound c.pass.ensures

pub returns-clause-passed : goal.returns-clause-passed
returns-clause-passed g c =
    let s = c.args.self.now in
    let none = ap (option_map passed_of) (nothing_held s.held (sym c.is_some.ensures ∙ c.if-is_some.false)) in
    passed-passes c.args.input.now (language_of c.args.language) (λ r. record { kind = g.W.Wanted.kind r.0; span = span_of r.1 }) s c.pass.new.reader
    c.pass.result none c.pass.ensures
