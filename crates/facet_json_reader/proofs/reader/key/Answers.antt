use Rattle.std.proofs.Common.{ap, arith}
use Rattle.std.proofs.lemmas.Result.{err_from_is_err_and}
use Rattle.facet_format.specs.HeldText.{text_of}
use Rattle.facet_format.specs.Views.{span_of}
use Rattle.facet_json_reader.specs.PlaceViews.{language_of}
use Rattle.facet_json_reader.specs.declared.place.Turn.TheVariants as turns
use Rattle.facet_json_reader.proofs.EventsAtTurns.{key-given, key-unmade, key-stopped, meaningless-refused}
use Rattle.facet_json_reader.proofs.TokenMeanings.{key_means, key-none}
use Rattle.facet_json_reader.proofs.reader.key.Goals as goal

pub returns-in_err-name : goal.returns-in_err-name
returns-in_err-name c =
    λ stack place position is.
    let p = err_from_is_err_and c.from_residual.result c.from_residual.ensures.1 in
    rw (p.1, p.2) (meaningless-refused c.args.input.now (language_of c.args.language) stack place position c.args.token.now turns.Names (span_of c.args.last) _ is (c.in_err-name.ensures is.kind is.is_kind))

pub returns-in_err-mark : goal.returns-in_err-mark
returns-in_err-mark c =
    λ stack place position is.
    let p = err_from_is_err_and c.from_residual-in_err-mark.result c.from_residual-in_err-mark.ensures.1 in
    let some = key_means c.args.input.now is.kind (span_of c.args.token.now.span) c.in_ok-name.name (c.in_ok-name.ensures is.kind is.is_kind) in
    let stops = rw (c.end.ensures.fits (omega (arith, c.requires.within))) at c.in_err-mark.ensures in
    rw (p.1, p.2) (key-stopped c.args.input.now (language_of c.args.language) stack place position c.args.token.now (span_of c.args.last) _ is some stops)

pub returns-in_default : goal.returns-in_default
returns-in_default c =
    λ stack place position is.
    let unmade = key-none c.args.input.now is.kind (span_of c.args.token.now.span) c.in_ok-name.name c.in_default.not-Some (c.in_ok-name.ensures is.kind is.is_kind) in
    let colon = rw (c.end.ensures.fits (omega (arith, c.requires.within))) at c.in_ok-mark.ensures in
    rw c.out_of_memory.ensures (key-unmade c.args.input.now (language_of c.args.language) stack place position c.args.token.now (span_of c.args.last) c.in_ok-mark.mark is unmade colon)

pub returns : goal.returns
returns c =
    λ stack place position is.
    let text = rw c.in-Some.is at (c.in_ok-name.ensures is.kind is.is_kind) in
    let colon = rw (c.end.ensures.fits (omega (arith, c.requires.within))) at c.in_ok-mark.ensures in
    key-given c.args.input.now (language_of c.args.language) stack place position c.args.token.now is (text_of c.in-Some.name) c.in_ok-mark.mark text colon _ (rw c.new-key.ensures.name at c.event.ensures.event) (ap span_of c.event.ensures.last)
