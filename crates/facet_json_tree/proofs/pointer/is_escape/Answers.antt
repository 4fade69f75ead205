use Rattle.std.proofs.Common.{rules}
use Rattle.facet_json_tree.proofs.pointer.is_escape.Goals as goal

pub returns-in-empty : goal.returns-in-empty
returns-in-empty c = search rules
