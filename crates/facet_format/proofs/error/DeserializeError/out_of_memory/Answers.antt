use Rattle.std.proofs.Common.{refl}
use Rattle.facet_format.proofs.error.DeserializeError.out_of_memory.Goals as goal

pub returns-clause-refusal : goal.returns-clause-refusal
returns-clause-refusal c = refl

pub returns-clause-error : goal.returns-clause-error
returns-clause-error c = refl
