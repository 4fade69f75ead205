use Rattle.facet_json_scan.proofs.AfterRefusals as refusals
use Rattle.facet_json_scan.proofs.laws.refusals.pending_again.Goals as goal

pub returns : goal.returns
returns c = refusals.pending_again
