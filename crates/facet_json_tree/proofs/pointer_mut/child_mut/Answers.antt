use Rattle.std.proofs.Common.{List, Option, ap, sym, ◌∙◌}
use Rattle.std.specs.Prelude.{option_and_then}
use Rattle.facet_json_grammar.specs.Tree.{Tree}
use Rattle.facet_json_tree.specs.declared.tree.Tree.{Tree as RustTree}
use Rattle.facet_json_tree.specs.Inner.PointerParts.{unescaped}
use Rattle.facet_json_tree.specs.Lookup.{item_at}
use Rattle.facet_json_tree.specs.Pointer.{child, index}
use Rattle.facet_json_tree.specs.Views.{tree_view, trees_view}
use Rattle.facet_json_tree.proofs.TreeViews.{tree_view-List}
use Rattle.facet_json_tree.proofs.pointer_mut.child_mut.Goals as goal

pub returns-in-List : goal.returns-in-List
returns-in-List c =
    let name = unescaped c.args.token.now in
    let found : List RustTree → Option Tree = λ xs. option_and_then (λ i. item_at i (trees_view xs)) (index name) in
    c.item_named_mut.ensures ∙ ap found (c.deref_mut-in-List.ensures.value ∙ ap (λ v. v.items) c.in-List.items-is)
    ∙ sym (ap (child name) (ap tree_view c.in-List.is ∙ tree_view-List _))
