use Rattle.facet_json_serializer.proofs.TreesByCalls.{tree_by_calls}
use Rattle.facet_json_serializer.proofs.laws.tree_by_calls.Goals as goal

pub returns : goal.returns
returns c = tree_by_calls
