use Rattle.std.proofs.Common.{rules}
use Rattle.facet_format.proofs.line.position_at.Goals as goal

pub returns-clause-line : goal.returns-clause-line
returns-clause-line c = search rules
