use Rattle.std.proofs.lemmas.Grind.{common_steps}
use Rattle.std.proofs.Common.{arith}
use Rattle.facet_json_serializer.proofs.bytes_text.push_shortened.Goals as goal

pub returns : goal.returns
returns c = grind (arith, common_steps)
