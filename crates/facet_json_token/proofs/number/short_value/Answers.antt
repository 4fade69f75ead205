use Rattle.std.proofs.Common.{arith}
use Rattle.facet_format.proofs.NumberText.{digits_value-grows}
use Rattle.facet_json_token.proofs.DigitValues.{digits_value-fits}
use Rattle.facet_json_token.proofs.number.short_value.Goals as goal

pub overflow_mul-value : goal.overflow_mul-value
overflow_mul-value c =
    let fits = digits_value-fits c.args.digits.now c.requires.digits c.requires.short in
    omega (arith, fits, c.loop-at.invariant.same, c.four_digits-four.ensures c.loop-at.value, digits_value-grows)

pub overflow_add-value : goal.overflow_add-value
overflow_add-value c =
    let fits = digits_value-fits c.args.digits.now c.requires.digits c.requires.short in
    omega (arith, fits, c.loop-at.invariant.same, c.four_digits-four.ensures c.loop-at.value, digits_value-grows)

pub last_digits-requires-clause-fits : goal.last_digits-requires-clause-fits
last_digits-requires-clause-fits c =
    let fits = digits_value-fits c.args.digits.now c.requires.digits c.requires.short in
    omega (arith, fits, c.loop-at.invariant.same)
