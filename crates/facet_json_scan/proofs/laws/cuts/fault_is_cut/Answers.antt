use Rattle.facet_json_scan.proofs.FaultIsCut as faults
use Rattle.facet_json_scan.proofs.laws.cuts.fault_is_cut.Goals as goal

pub returns : goal.returns
returns c = faults.fault_is_cut
