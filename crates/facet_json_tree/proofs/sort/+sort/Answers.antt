use Rattle.std.proofs.Common.{◌<◌, ap, sym, ◌∙◌, arith}
use Rattle.facet_json_grammar.specs.Tree.{pairs}
use Rattle.facet_json_tree.specs.Sorted.{sorted, items_sorted, values_sorted, in_order}
use Rattle.facet_json_tree.specs.Views.{tree_view, trees_view, pairs_view}
use Rattle.facet_json_tree.proofs.TreeViews.{tree_view-Pairs, pushed-next}
use Rattle.facet_json_tree.proofs.Sortings.{items_sorted-grown, values_sorted-grown}
use Rattle.facet_json_tree.proofs.sort.+sort.Goals as goal

pub sorted_items-loop-item-preserved : goal.sorted_items-loop-item-preserved
sorted_items-loop-item-preserved t c =
    pushed-next trees_view (λ xs. items_sorted (trees_view xs)) _ _ c.args.items.now c.loop-item.item-index c.item-item.result _ c.in_ok-push.ensures.items
    (omega arith) c.item-item.is (items_sorted-grown c.loop-item.copies.items _ c.in_ok-sorted_copy.field-0 _ c.loop-item.invariant c.in_ok-sorted_copy.ensures)

pub sorted_members-loop-member-preserved : goal.sorted_members-loop-member-preserved
sorted_members-loop-member-preserved t c =
    let name = c.in_ok-name.ensures.ok ∙ c.as_str.ensures.value in
    pushed-next pairs_view (λ ps. values_sorted (pairs_view ps)) _ _ c.args.members.now c.loop-member.member-index c.member-item.result _
    c.in_ok-push.ensures.items (omega arith) c.member-item.is
    (values_sorted-grown c.loop-member.copies.items _ c.in_ok-name.name c.in_ok-value.value _ c.loop-member.invariant name c.in_ok-value.ensures)

pub sorted_copy-returns-in_ok-sorted_members-in-Pairs : goal.sorted_copy-returns-in_ok-sorted_members-in-Pairs
sorted_copy-returns-in_ok-sorted_members-in-Pairs t c =
    let was = ap sorted (ap tree_view c.in-Pairs.is ∙ tree_view-Pairs _) in
    let members = ap (λ ms. in_order (values_sorted (pairs_view ms))) c.deref-in-Pairs.ensures.value in
    tree_view-Pairs _ ∙ ap pairs (c.in_ok-sorted_members-in-Pairs.ensures ∙ members) ∙ sym was
