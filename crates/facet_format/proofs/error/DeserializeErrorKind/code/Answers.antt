use Rattle.std.proofs.Common.{ap, sym}
use Rattle.facet_format.specs.Complaint.{code_of}
use Rattle.facet_format.specs.Views.{complaint_of}
use Rattle.facet_format.proofs.error.DeserializeErrorKind.code.Goals as goal

pub returns-in-OutOfMemory : goal.returns-in-OutOfMemory
returns-in-OutOfMemory c = ap (λ kind. code_of (complaint_of kind)) (sym c.in-OutOfMemory.is)
