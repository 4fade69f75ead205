use Rattle.std.proofs.Common.{rules}
use Rattle.facet_format.proofs.numeral.Parts.hint.Goals as goal

pub returns-then-len-self : goal.returns-then-len-self
returns-then-len-self c = search rules

pub returns-then-self-gt0 : goal.returns-then-self-gt0
returns-then-self-gt0 c = search rules

pub returns-else-self-gt0 : goal.returns-else-self-gt0
returns-else-self-gt0 c = search rules
