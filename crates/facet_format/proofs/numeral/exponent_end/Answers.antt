use Rattle.std.proofs.Common.{arith, rules}
use Rattle.std.proofs.lemmas.Grind.{common_steps}
use Rattle.facet_format.proofs.numeral.exponent_end.Goals as goal

pub returns-in-Some-eq101-clause-end : goal.returns-in-Some-eq101-clause-end
returns-in-Some-eq101-clause-end c = grind (arith, common_steps)

pub returns-in-Some-eq101-clause-within : goal.returns-in-Some-eq101-clause-within
returns-in-Some-eq101-clause-within c = search rules

pub returns-in_default-clause-end : goal.returns-in_default-clause-end
returns-in_default-clause-end c = grind (arith, common_steps)

pub returns-in_default-clause-within : goal.returns-in_default-clause-within
returns-in_default-clause-within c = search rules

pub returns-in_default-2-clause-end : goal.returns-in_default-2-clause-end
returns-in_default-2-clause-end c = grind (arith, common_steps)

pub returns-in_default-2-clause-within : goal.returns-in_default-2-clause-within
returns-in_default-2-clause-within c = search rules
