use Rattle.std.proofs.Common.{rules}
use Rattle.facet_json_tree.proofs.TreeViews.{tree_view-Pairs}
use Rattle.facet_json_tree.proofs.tree.Tree.remove.Goals as goal

pub returns-in-Pairs-clause-left : goal.returns-in-Pairs-clause-left
returns-in-Pairs-clause-left c =
    search (rules, tree_view-Pairs) parts 4
