use Rattle.std.specs.Bool.{one_answer}
use Rattle.facet_json_tree.specs.Same.{same_tree}
use Rattle.facet_json_tree.specs.Inner.SameLaws.{same_tree-decides}
use Rattle.facet_json_tree.specs.Views.{tree_view}
use Rattle.facet_json_tree.proofs.tree.TreePartialEq.eq.Goals as goal

pub returns : goal.returns
returns c =
    let a = tree_view c.args.self.now in
    let b = tree_view c.args.other.now in
    one_answer c.is_same.result (same_tree a b) c.is_same.ensures (same_tree-decides a b)
