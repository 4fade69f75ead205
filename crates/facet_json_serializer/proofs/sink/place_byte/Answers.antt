use Rattle.std.proofs.lemmas.Grind.{common_steps}
use Rattle.std.proofs.Common.{arith}
use Rattle.facet_json_serializer.proofs.sink.place_byte.Goals as goal

pub returns-then-wanted : goal.returns-then-wanted
returns-then-wanted c = grind (arith, common_steps)

pub returns-else-wanted : goal.returns-else-wanted
returns-else-wanted c = grind (arith, common_steps)
