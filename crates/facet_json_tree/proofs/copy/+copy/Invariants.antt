use Rattle.std.proofs.Common.{◌≡◌, take}
use Rattle.facet_json_tree.specs.Views.{trees_view, pairs_view}
use Rattle.facet_json_tree.proofs.copy.+copy.Given as goal

abbrev pub invariant-copy_items-loop-item : goal.invariant-copy_items-loop-item
invariant-copy_items-loop-item l = trees_view l.copies.items ≡ trees_view (take l.item-index l.items)

abbrev pub invariant-copy_members-loop-member : goal.invariant-copy_members-loop-member
invariant-copy_members-loop-member l = pairs_view l.copies.items ≡ pairs_view (take l.member-index l.members)
