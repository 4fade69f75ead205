use Rattle.facet_format.proofs.RefusalKinds.{memory-kind}
use Rattle.facet_format.proofs.laws.memory_is_its_kind.Goals as goal

pub returns : goal.returns
returns c = memory-kind
