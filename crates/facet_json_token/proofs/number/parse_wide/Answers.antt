use Rattle.std.proofs.Common.{arith}
use Rattle.facet_format.proofs.NumberText.{digit_at-above, digits_value-above}
use Rattle.facet_json_token.proofs.number.parse_wide.Goals as goal

pub overflow_sub-digit : goal.overflow_sub-digit
overflow_sub-digit c = digit_at-above _ _ c.requires c.loop-digit-test.true

pub returns-in_err-tenfold : goal.returns-in_err-tenfold
returns-in_err-tenfold c =
    let above = digits_value-above _ _ _ c.loop-digit.digit-index c.loop-digit-test.true c.loop-digit.invariant.same in
    rw c.from_residual.ensures (omega (arith, c.in_err-tenfold.ensures))

pub returns-in_err-value : goal.returns-in_err-value
returns-in_err-value c =
    let above = digits_value-above _ _ _ c.loop-digit.digit-index c.loop-digit-test.true c.loop-digit.invariant.same in
    rw c.from_residual-in_err-value.ensures (omega (arith, c.in_err-value.ensures))
