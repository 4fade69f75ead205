use Rattle.facet_json_serializer.proofs.CallsTaken.{taken_in_order}
use Rattle.facet_json_serializer.proofs.laws.taken_in_order.Goals as goal

pub returns : goal.returns
returns c = taken_in_order
