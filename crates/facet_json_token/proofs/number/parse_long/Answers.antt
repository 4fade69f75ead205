use Rattle.std.proofs.Common.{arith}
use Rattle.std.proofs.lemmas.Grind.{common_steps}
use Rattle.facet_format.proofs.NumberText.{digit_at-above, digits_value-above}
use Rattle.facet_json_token.proofs.number.parse_long.Goals as goal

pub overflow_sub-digit : goal.overflow_sub-digit
overflow_sub-digit c = digit_at-above _ _ c.requires c.loop-digit-test.true

pub returns-in_err-tens : goal.returns-in_err-tens
returns-in_err-tens c =
    let above = digits_value-above _ _ _ c.loop-digit.digit-index c.loop-digit-test.true c.loop-digit.invariant.same in
    rw c.from_residual.ensures (omega (arith, c.in_err-tens.ensures))

pub returns-in_err-value : goal.returns-in_err-value
returns-in_err-value c =
    let above = digits_value-above _ _ _ c.loop-digit.digit-index c.loop-digit-test.true c.loop-digit.invariant.same in
    rw c.from_residual-in_err-value.ensures (omega (arith, c.in_err-value.ensures))

pub loop-digit-preserved : goal.loop-digit-preserved
loop-digit-preserved c = grind (arith, common_steps)

pub returns : goal.returns
returns c = grind (arith, common_steps)
