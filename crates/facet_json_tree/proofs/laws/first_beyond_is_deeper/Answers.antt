use Rattle.facet_json_tree.proofs.DepthOfNodes.{first_beyond-is_deeper}
use Rattle.facet_json_tree.proofs.laws.first_beyond_is_deeper.Goals as goal

pub returns : goal.returns
returns c = first_beyond-is_deeper
