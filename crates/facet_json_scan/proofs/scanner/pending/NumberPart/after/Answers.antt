-- Each byte goes on with the number, or the number ends before it.
use Rattle.std.proofs.Common.{◌≡◌, true, false, sym, ◌∙◌, eq-eqb}
use Rattle.std.proofs.lemmas.Bool.{ne_eqb}
use Rattle.facet_format.specs.Bytes.{dot}
use Rattle.facet_json_scan.specs.Scanner.{at_mark, in_exponent, ExtendsWith, EndsBefore}
use Rattle.facet_json_scan.proofs.Pieces.NumberParts.{digit-after_digits, dot-after_digits, mark-after_digits, shut-digits, digit-after_fraction, mark-after_fraction, shut-fraction, sign-after_mark, digit-after_mark, shut-mark, digit-after_exponent, shut-exponent}
use Rattle.facet_json_scan.proofs.scanner.pending.NumberPart.after.Goals as goal
use Rattle.facet_json_scan.proofs.scanner.pending.NumberPart.after.Goals.{then-is_digit-3, else-is_digit-3}

pub returns-then-is_digit : goal.returns-then-is_digit
returns-then-is_digit c =
    rw c.in-Digits.is (digit-after_digits c.args.byte (sym c.is_digit-is_digit.ensures ∙ c.if-is_digit.true))

pub returns-then-byte-eq46 : goal.returns-then-byte-eq46
returns-then-byte-eq46 c =
    rw c.in-Digits.is (dot-after_digits c.args.byte (eq-eqb c.args.byte dot c.if-byte-eq46.true))

pub returns-then-is_exponent_mark : goal.returns-then-is_exponent_mark
returns-then-is_exponent_mark c =
    rw c.in-Digits.is (mark-after_digits c.args.byte (sym c.is_exponent_mark.ensures ∙ c.if-is_exponent_mark.true))

pub returns-else-is_exponent_mark : goal.returns-else-is_exponent_mark
returns-else-is_exponent_mark c =
    rw c.in-Digits.is
    (shut-digits c.args.byte (sym c.is_digit-is_digit.ensures ∙ c.if-is_digit.false) (ne_eqb c.args.byte dot c.if-byte-eq46.false)
    (sym c.is_exponent_mark.ensures ∙ c.if-is_exponent_mark.false))

pub returns-then-is_digit-2 : goal.returns-then-is_digit-2
returns-then-is_digit-2 c =
    rw c.in-Fraction.is (digit-after_fraction c.args.byte (sym c.is_digit-is_digit.ensures ∙ c.if-is_digit-2.true))

pub returns-then-is_exponent_mark-2 : goal.returns-then-is_exponent_mark-2
returns-then-is_exponent_mark-2 c =
    rw c.in-Fraction.is
    (mark-after_fraction c.args.byte (sym c.is_exponent_mark-else-is_digit-2.ensures ∙ c.if-is_exponent_mark-2.true))

pub returns-else-is_exponent_mark-2 : goal.returns-else-is_exponent_mark-2
returns-else-is_exponent_mark-2 c =
    rw c.in-Fraction.is
    (shut-fraction c.args.byte (sym c.is_digit-is_digit.ensures ∙ c.if-is_digit-2.false) (sym c.is_exponent_mark-else-is_digit-2.ensures ∙ c.if-is_exponent_mark-2.false))

pub returns-then-is_sign : goal.returns-then-is_sign
returns-then-is_sign c =
    let goes_on : ExtendsWith at_mark c.args.byte in_exponent =
    elim c.if-is_digit-3.branch [
      | then-is_digit-3 w ↦ digit-after_mark c.args.byte (sym c.is_digit-is_digit.ensures ∙ w.if-is_digit-3.true)
      | else-is_digit-3 w ↦
          sign-after_mark c.args.byte (sym w.is_sign.ensures ∙ sym w.value-is ∙ c.if-is_sign.true)
    ] in
    rw c.in-Mark.is goes_on

pub returns-else-is_sign : goal.returns-else-is_sign
returns-else-is_sign c =
    let ends : EndsBefore at_mark c.args.byte =
    elim c.if-is_digit-3.branch [
      | then-is_digit-3 w ↦ absurd (let no : true ≡ false = sym w.if-is_digit-3.true ∙ sym w.value-is ∙ c.if-is_sign.false in cc)
      | else-is_digit-3 w ↦
          shut-mark c.args.byte (sym c.is_digit-is_digit.ensures ∙ w.if-is_digit-3.false)
          (sym w.is_sign.ensures ∙ sym w.value-is ∙ c.if-is_sign.false)
    ] in
    rw c.in-Mark.is ends

pub returns-then-is_digit-4 : goal.returns-then-is_digit-4
returns-then-is_digit-4 c =
    rw c.in-Exponent.is (digit-after_exponent c.args.byte (sym c.is_digit-is_digit.ensures ∙ c.if-is_digit-4.true))

pub returns-else-is_digit-4 : goal.returns-else-is_digit-4
returns-else-is_digit-4 c =
    rw c.in-Exponent.is (shut-exponent c.args.byte (sym c.is_digit-is_digit.ensures ∙ c.if-is_digit-4.false))
