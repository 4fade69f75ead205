use Rattle.std.proofs.Common.{rules}
use Rattle.facet_json_tree.proofs.pointer.index_of.Goals as goal

pub returns-in-48 : goal.returns-in-48
returns-in-48 c = search rules
