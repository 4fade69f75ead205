use Rattle.std.proofs.lemmas.Grind.{common_steps}
use Rattle.std.proofs.Common.{arith}
use Rattle.facet_format.proofs.line.line_start.Goals as goal

pub returns-else-text-start-ne10-clause-start : goal.returns-else-text-start-ne10-clause-start
returns-else-text-start-ne10-clause-start c = grind (arith, common_steps)
