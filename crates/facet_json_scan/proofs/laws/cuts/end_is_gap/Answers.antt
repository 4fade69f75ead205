use Rattle.facet_json_scan.proofs.EndIsGap as laws
use Rattle.facet_json_scan.proofs.laws.cuts.end_is_gap.Goals as goal

pub returns : goal.returns
returns c = laws.end_is_gap
