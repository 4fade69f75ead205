-- With outer digits the number has a value, which is its text; else it was measured.
use Rattle.std.proofs.Common.{refl, sym, ◌∙◌}
use Rattle.facet_format.proofs.OuterDigits.{outer-number}
use Rattle.facet_format.proofs.decimal.Decimal.of_number.Goals as goal
use Rattle.facet_format.proofs.decimal.Decimal.of_number.Goals.{then-has_outer_digits, else-has_outer_digits}

pub invariant_of-result : goal.invariant_of-result
invariant_of-result c = elim c.if-has_outer_digits.branch [
  | then-has_outer_digits w ↦ outer-number c.args.text.now c.requires (rw c.as_bytes-bytes.ensures.value at (sym c.has_outer_digits.ensures ∙ w.if-has_outer_digits.true))
  | else-has_outer_digits w ↦ rw c.as_bytes-bytes.ensures.value at (w.is_decimal.ensures.yes (sym w.value-is ∙ c.if-is_decimal.true))
]

pub returns-then-is_decimal : goal.returns-then-is_decimal
returns-then-is_decimal c = (
  refl,
  elim c.if-has_outer_digits.branch [
    | then-has_outer_digits w ↦ outer-number c.args.text.now c.requires (rw c.as_bytes-bytes.ensures.value at (sym c.has_outer_digits.ensures ∙ w.if-has_outer_digits.true))
    | else-has_outer_digits w ↦ rw c.as_bytes-bytes.ensures.value at (w.is_decimal.ensures.yes (sym w.value-is ∙ c.if-is_decimal.true))
  ],
)
