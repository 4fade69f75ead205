use Rattle.std.proofs.Common.{rules}
use Rattle.facet_json_command.proofs.run.serializer_of.Goals as goal

pub returns-then-pretty : goal.returns-then-pretty
returns-then-pretty c = search rules

pub returns-else-pretty : goal.returns-else-pretty
returns-else-pretty c = search rules
