use Rattle.facet_json_scan.proofs.AfterRefusals as refusals
use Rattle.facet_json_scan.proofs.laws.refusals.refusal_repeats.Goals as goal

pub returns : goal.returns
returns c = refusals.refusal_repeats
