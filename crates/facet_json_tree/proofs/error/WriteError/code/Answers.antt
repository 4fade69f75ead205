use Rattle.std.proofs.Common.{rules}
use Rattle.facet_json_tree.proofs.error.WriteError.code.Goals as goal

pub returns-in-Memory : goal.returns-in-Memory
returns-in-Memory c = search rules

pub returns-in-Io : goal.returns-in-Io
returns-in-Io c = search rules
