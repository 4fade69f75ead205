use Rattle.std.proofs.Common.{arith}
use Rattle.facet_format.proofs.event.Span.end.Goals as goal

pub returns-clause-end : goal.returns-clause-end
returns-clause-end c = omega arith

pub returns-clause-fits : goal.returns-clause-fits
returns-clause-fits c = λ fits. omega arith
