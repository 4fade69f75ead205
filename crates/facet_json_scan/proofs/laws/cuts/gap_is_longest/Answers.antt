use Rattle.facet_json_scan.proofs.GapIsLongest as gaps
use Rattle.facet_json_scan.proofs.laws.cuts.gap_is_longest.Goals as goal

pub returns : goal.returns
returns c = gaps.gap_is_longest
