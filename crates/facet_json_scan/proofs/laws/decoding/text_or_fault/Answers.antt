use Rattle.facet_json_token.proofs.FaultLaws as laws
use Rattle.facet_json_scan.proofs.laws.decoding.text_or_fault.Goals as goal

pub returns : goal.returns
returns c = laws.text_or_fault
