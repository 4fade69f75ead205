use Rattle.std.proofs.Common.{◌<◌, ap, sym, ◌∙◌, arith}
use Rattle.facet_json_grammar.specs.Tree.{pairs}
use Rattle.facet_json_tree.specs.Views.{tree_view, trees_view, pairs_view}
use Rattle.facet_json_tree.proofs.TreeViews.{tree_view-Pairs, trees_view-grown, pairs_view-grown, pushed-next}
use Rattle.facet_json_tree.proofs.copy.+copy.Goals as goal

pub copy_tree-returns-in_ok-copy_members-in-Pairs : goal.copy_tree-returns-in_ok-copy_members-in-Pairs
copy_tree-returns-in_ok-copy_members-in-Pairs t c =
    let ps = ap (λ v. pairs (pairs_view v)) (sym c.deref-in-Pairs.ensures.value) in
    let here = ap tree_view c.in-Pairs.is ∙ tree_view-Pairs _ ∙ ps in
    let same = c.in_ok-copy_members-in-Pairs.ensures in
    tree_view-Pairs _ ∙ ap pairs same ∙ sym here

pub copy_items-loop-item-preserved : goal.copy_items-loop-item-preserved
copy_items-loop-item-preserved t c =
    pushed-next trees_view trees_view _ _ c.args.items.now c.loop-item.item-index c.item-item.result _ c.in_ok-push.ensures.items (omega arith) c.item-item.is
    (trees_view-grown c.loop-item.copies.items _ c.in_ok-copy_tree.field-0 _ c.loop-item.invariant c.in_ok-copy_tree.ensures)

pub copy_members-loop-member-preserved : goal.copy_members-loop-member-preserved
copy_members-loop-member-preserved t c =
    let name = c.in_ok-name.ensures.ok ∙ c.as_str.ensures.value in
    pushed-next pairs_view pairs_view _ _ c.args.members.now c.loop-member.member-index c.member-item.result _ c.in_ok-push.ensures.items (omega arith) c.member-item.is
    (pairs_view-grown c.loop-member.copies.items _ c.in_ok-name.name c.in_ok-value.value _ c.loop-member.invariant name c.in_ok-value.ensures)
