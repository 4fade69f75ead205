use Rattle.std.proofs.Common.{rules}
use Rattle.facet_json_serializer.proofs.writing.Containers.pass_first.Goals as goal

pub returns : goal.returns
returns c = search rules
