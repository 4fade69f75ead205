use Rattle.std.proofs.Common.{drop}
use Rattle.facet_json_grammar.specs.Tree.{list, pairs}
use Rattle.facet_json_tree.specs.Views.{trees_view, pairs_view}
use Rattle.facet_json_tree.specs.Write.{IsOfRust}
use Rattle.facet_json_tree.proofs.Containers.{ItemsLeft, MembersLeft}
use Rattle.facet_json_tree.proofs.tree_calls.+write.Given as goal

abbrev pub invariant-write_list-loop-item : goal.invariant-write_list-loop-item
invariant-write_list-loop-item l =
    let all = trees_view l.items in
    let others = trees_view (drop l.item-index l.items) in
    ItemsLeft l.fn.serializer all others l.serializer × (IsOfRust (list others) → IsOfRust (list all))

abbrev pub invariant-write_pairs-loop-member : goal.invariant-write_pairs-loop-member
invariant-write_pairs-loop-member l =
    let all = pairs_view l.members in
    let others = pairs_view (drop l.member-index l.members) in
    MembersLeft l.fn.serializer all others l.serializer × (IsOfRust (pairs others) → IsOfRust (pairs all))
