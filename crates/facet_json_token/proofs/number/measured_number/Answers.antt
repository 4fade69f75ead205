-- The digits of a whole number, and what they spell.
use Rattle.std.proofs.Common.{sym, ◌∙◌}
use Rattle.facet_format.proofs.NumberText.{unsigned-digits, number-unsigned, signed-digits, number-signed}
use Rattle.facet_json_token.proofs.SignedNumbers.{signed-sign}
use Rattle.facet_json_token.proofs.number.measured_number.Goals as goal

pub unsigned_number-requires : goal.unsigned_number-requires
unsigned_number-requires c =
    unsigned-digits c.args.text.now (rw c.in-Unsigned.is at c.requires.is_number)

pub negative_number-requires : goal.negative_number-requires
negative_number-requires c =
    let is = rw c.in-Signed.is at c.requires.is_number in
    signed-digits c.args.text.now 1 (signed-sign c.args.text.now is) is

pub returns-in-Unsigned-clause-number : goal.returns-in-Unsigned-clause-number
returns-in-Unsigned-clause-number c =
    let is = rw c.in-Unsigned.is at c.requires.is_number in
    rw c.in-Unsigned.is (c.unsigned_number.ensures.number ∙ sym (number-unsigned c.args.text.now is))

pub returns-in-Signed-clause-number : goal.returns-in-Signed-clause-number
returns-in-Signed-clause-number c =
    let is = rw c.in-Signed.is at c.requires.is_number in
    rw c.in-Signed.is (c.negative_number.ensures.number ∙ sym (number-signed c.args.text.now 1 (signed-sign c.args.text.now is) is))
