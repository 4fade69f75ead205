-- The test finds the numbers of RFC 8259.
use Rattle.std.proofs.Common.{◌≡◌, true, false, sym, ◌∙◌}
use Rattle.facet_json_token.proofs.RfcNumbers.{is_rfc-sound, is_rfc-complete}
use Rattle.facet_json_token.proofs.rfc_number.check_number_strict.Goals as goal

pub returns-then-is_rfc_number : goal.returns-then-is_rfc_number
returns-then-is_rfc_number c = is_rfc-sound _ (sym c.is_rfc_number.ensures ∙ c.if-is_rfc_number.true)

pub returns-else-is_rfc_number : goal.returns-else-is_rfc_number
returns-else-is_rfc_number c =
    let no = sym c.is_rfc_number.ensures ∙ c.if-is_rfc_number.false in
    (λ n. let yes = is_rfc-complete _ n in let both : true ≡ false = sym yes ∙ no in cc, c.no_number.ensures)
