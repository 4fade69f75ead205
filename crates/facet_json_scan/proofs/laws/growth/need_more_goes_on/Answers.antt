use Rattle.facet_json_scan.proofs.NeedMoreGoesOn as laws
use Rattle.facet_json_scan.proofs.laws.growth.need_more_goes_on.Goals as goal

pub returns : goal.returns
returns c = laws.need_more_goes_on
