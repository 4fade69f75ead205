use Rattle.std.proofs.Common.{rules}
use Rattle.facet_json_tree.proofs.pointer.last_with_name.Goals as goal

pub returns-clause-found : goal.returns-clause-found
returns-clause-found c = search rules
