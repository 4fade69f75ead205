use Rattle.std.proofs.Common.{◌≡◌, take}
use Rattle.facet_json_tree.specs.Sorted.{items_sorted, values_sorted}
use Rattle.facet_json_tree.specs.Views.{trees_view, pairs_view}
use Rattle.facet_json_tree.proofs.sort.+sort.Given as goal

abbrev pub invariant-sorted_items-loop-item : goal.invariant-sorted_items-loop-item
invariant-sorted_items-loop-item l = trees_view l.copies.items ≡ items_sorted (trees_view (take l.item-index l.items))

abbrev pub invariant-sorted_members-loop-member : goal.invariant-sorted_members-loop-member
invariant-sorted_members-loop-member l = pairs_view l.copies.items ≡ values_sorted (pairs_view (take l.member-index l.members))
