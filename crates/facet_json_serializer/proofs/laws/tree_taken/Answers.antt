use Rattle.facet_json_serializer.proofs.CallsTaken.{tree_taken}
use Rattle.facet_json_serializer.proofs.laws.tree_taken.Goals as goal

pub returns : goal.returns
returns c = tree_taken
