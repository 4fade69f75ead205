use Rattle.facet_json_token.proofs.FaultLaws as laws
use Rattle.facet_json_scan.proofs.laws.decoding.first_fault_is_found.Goals as goal

pub returns : goal.returns
returns c = laws.first_fault_is_found
