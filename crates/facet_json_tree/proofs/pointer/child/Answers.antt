use Rattle.std.proofs.Common.{ap, sym, ◌∙◌}
use Rattle.std.specs.Prelude.{option_and_then}
use Rattle.facet_json_tree.specs.Inner.PointerParts.{unescaped}
use Rattle.facet_json_tree.specs.Lookup.{item_at}
use Rattle.facet_json_tree.specs.Pointer.{child, index}
use Rattle.facet_json_tree.specs.Views.{tree_view, trees_view}
use Rattle.facet_json_tree.proofs.TreeViews.{tree_view-List}
use Rattle.facet_json_tree.proofs.pointer.child.Goals as goal

pub returns-in-List : goal.returns-in-List
returns-in-List c =
    let name = unescaped c.args.token.now in
    c.item_named.ensures ∙ ap (λ xs. option_and_then (λ i. item_at i (trees_view xs)) (index name)) c.deref-in-List.ensures.value
    ∙ sym (ap (child name) (ap tree_view c.in-List.is ∙ tree_view-List _))
