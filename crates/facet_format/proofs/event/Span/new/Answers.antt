use Rattle.std.proofs.Common.{refl}
use Rattle.facet_format.proofs.event.Span.new.Goals as goal

pub returns-clause-offset : goal.returns-clause-offset
returns-clause-offset c = refl

pub returns-clause-len : goal.returns-clause-len
returns-clause-len c = refl
