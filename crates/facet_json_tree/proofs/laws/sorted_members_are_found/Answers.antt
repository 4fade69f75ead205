use Rattle.facet_json_tree.proofs.SortedLaws.{order-ascends, sorted-found}
use Rattle.facet_json_tree.proofs.laws.sorted_members_are_found.Goals as goal

pub returns-clause-ascend : goal.returns-clause-ascend
returns-clause-ascend c = order-ascends

pub returns-clause-found : goal.returns-clause-found
returns-clause-found c = sorted-found
