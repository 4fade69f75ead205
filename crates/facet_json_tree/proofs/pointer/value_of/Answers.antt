use Rattle.std.proofs.Common.{arith}
use Rattle.facet_format.proofs.NumberText.{digits_value-above}
use Rattle.facet_json_tree.proofs.pointer.value_of.Goals as goal

pub returns-in_err-tens : goal.returns-in_err-tens
returns-in_err-tens c =
    let above = digits_value-above _ _ _ c.loop-digit.digit-index c.loop-digit-test.true c.loop-digit.invariant.same in
    rw c.from_residual.ensures (λ all. omega (arith, c.in_err-tens.ensures))

pub returns-in_err-value : goal.returns-in_err-value
returns-in_err-value c =
    let above = digits_value-above _ _ _ c.loop-digit.digit-index c.loop-digit-test.true c.loop-digit.invariant.same in
    rw c.from_residual-in_err-value.ensures (λ all. omega (arith, c.in_err-value.ensures))
