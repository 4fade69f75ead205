use Rattle.std.proofs.Common.{arith}
use Rattle.facet_format.proofs.NumberText.{digit_at-above, digits_value-above}
use Rattle.facet_json_token.proofs.number.last_digits.Goals as goal

pub overflow_mul-value : goal.overflow_mul-value
overflow_mul-value c =
    let above = digits_value-above c.loop-i.value _ c.args.digits.now c.loop-i.i c.loop-i-test.true c.loop-i.invariant in
    omega (arith, above, c.requires.fits)

pub overflow_sub-digits : goal.overflow_sub-digits
overflow_sub-digits c = digit_at-above c.args.digits.now c.loop-i.i c.requires.digits c.loop-i-test.true

pub overflow_add-value : goal.overflow_add-value
overflow_add-value c =
    let above = digits_value-above c.loop-i.value _ c.args.digits.now c.loop-i.i c.loop-i-test.true c.loop-i.invariant in
    omega (arith, above, c.requires.fits)
