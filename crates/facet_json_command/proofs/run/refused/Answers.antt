use Rattle.std.proofs.Common.{rules}
use Rattle.facet_json_command.proofs.run.refused.Goals as goal

pub returns-in-Read-clause-refused : goal.returns-in-Read-clause-refused
returns-in-Read-clause-refused c = search rules

pub returns-in-Read-clause-failed : goal.returns-in-Read-clause-failed
returns-in-Read-clause-failed c = search rules
