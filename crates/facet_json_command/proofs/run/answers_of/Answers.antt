use Rattle.std.proofs.Common.{rules}
use Rattle.facet_json_command.proofs.run.answers_of.Goals as goal

pub returns : goal.returns
returns c = search rules
