use Rattle.std.proofs.Common.{drop, rules}
use Rattle.facet_format.specs.NumberParts.{parts}
use Rattle.facet_format.proofs.NumberSteps.{PartsEnd-parts, PartsEnd-lengths}
use Rattle.facet_format.proofs.numeral.parts_at.Goals as goal

pub returns-clause-parts : goal.returns-clause-parts
returns-clause-parts c =
    let buffer = c.args.buffer.now in
    let at = c.args.at in
    PartsEnd-lengths (parts (drop at buffer)) at _ _ _ _
    (PartsEnd-parts buffer at c.minus_end-digits.result c.digits_end-fraction.result c.fraction_end-exponent.result
    c.exponent_end-end.result c.minus_end-digits.ensures.end c.digits_end-fraction.ensures.end
    c.fraction_end-exponent.ensures.end c.exponent_end-end.ensures.end)

pub returns-clause-within : goal.returns-clause-within
returns-clause-within c = search rules
