-- The law is a lemma of the room on growth.
use Rattle.facet_json_scan.proofs.Growth.GrowthOfCut as growth
use Rattle.facet_json_scan.proofs.laws.growth.cut_stays.Goals as goal

pub returns : goal.returns
returns c = growth.cut_stays
