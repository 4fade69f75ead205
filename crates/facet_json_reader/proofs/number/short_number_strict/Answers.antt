-- The parts pass the tests, and the value is of all of them.
use Rattle.std.proofs.Common.{sym, ap, ◌∙◌}
use Rattle.std.proofs.lemmas.List.{take_rest}
use Rattle.std.proofs.lemmas.Option.{IfSome_then}
use Rattle.facet_json_token.specs.RfcNumberTest.{are_rfc_parts}
use Rattle.facet_json_reader.proofs.RfcNumbersThere.{parts-strict}
use Rattle.facet_json_reader.proofs.number.short_number_strict.Goals as goal

pub returns-clause-strict : goal.returns-clause-strict
returns-clause-strict c =
    let q = c.parts_at-parts.result in
    let rest = ap (are_rfc_parts q) (sym (take_rest c.args.input.now c.args.at)) in
    let tests = rest ∙ sym c.has_rfc_parts.ensures ∙ c.if-not-has_rfc_parts.false in
    IfSome_then c.short_by_parts.result c.short_by_parts.ensures.all
    (λ r all. parts-strict c.args.input.now c.args.at r.0 q c.parts_at-parts.ensures.parts all tests)
