use Rattle.std.proofs.Common.{rules}
use Rattle.facet_json_command.proofs.lines.write_answer.Goals as goal

pub returns-in-Restored : goal.returns-in-Restored
returns-in-Restored c = search rules
