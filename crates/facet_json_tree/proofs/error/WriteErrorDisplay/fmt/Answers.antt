use Rattle.std.proofs.Common.{rules}
use Rattle.facet_json_tree.proofs.error.WriteErrorDisplay.fmt.Goals as goal

pub returns-in-Memory-clause-writes : goal.returns-in-Memory-clause-writes
returns-in-Memory-clause-writes c = search rules

pub returns-in-Memory-clause-styled : goal.returns-in-Memory-clause-styled
returns-in-Memory-clause-styled c = search rules
