use Rattle.facet_json_programs.proofs.LineFaults.{line-fault}
use Rattle.facet_json_programs.proofs.requests.check.Goals as goal

pub returns-in-Err-clause-fault : goal.returns-in-Err-clause-fault
returns-in-Err-clause-fault c = line-fault _ _ _ c.in-Err.ensures.only c.or_memory.ensures
