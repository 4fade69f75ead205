use Rattle.std.proofs.Common.{◌≡◌, ◌↔◌, drop}
use Rattle.facet_json_tree.specs.Views.{trees_view, pairs_view}
use Rattle.facet_json_tree.proofs.tree.+same.Given as goal

abbrev pub invariant-are_same-loop-i : goal.invariant-are_same-loop-i
invariant-are_same-loop-i l =
    (trees_view (drop l.i l.items) ≡ trees_view (drop l.i l.others)) ↔ (trees_view l.items ≡ trees_view l.others)

abbrev pub invariant-have_same-loop-i : goal.invariant-have_same-loop-i
invariant-have_same-loop-i l =
    (pairs_view (drop l.i l.members) ≡ pairs_view (drop l.i l.others)) ↔ (pairs_view l.members ≡ pairs_view l.others)
