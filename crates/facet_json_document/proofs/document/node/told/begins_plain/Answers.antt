use Rattle.std.proofs.Common.{refl, arith, rules}
use Rattle.facet_json_token.proofs.Offsets.{slice_get-from_read}
use Rattle.facet_json_document.specs.Inner.PlainNumbers.{by_digit, by_minus}
use Rattle.facet_json_document.proofs.document.node.told.begins_plain.Goals as goal

pub returns-in-Some-49-to-57-matches : goal.returns-in-Some-49-to-57-matches
returns-in-Some-49-to-57-matches c =
    λ e.
    let w = c.in-Some-49-to-57-matches in
    by_minus w.field-0.now (search rules) (slice_get-from_read c.args.text.now 1 w.field-0.now w.field-0.now w.ensures.lookup.3 refl) (grind arith)

pub returns-in-Some-49-to-57 : goal.returns-in-Some-49-to-57
returns-in-Some-49-to-57 c = λ e. by_digit c.in-Some-49-to-57.field-0.now (search rules) (grind arith)
