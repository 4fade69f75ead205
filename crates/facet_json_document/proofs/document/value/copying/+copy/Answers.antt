use Rattle.std.proofs.Common.{sym, ap, ◌∙◌}
use Rattle.std.proofs.lemmas.Result.{err_from_is_err_and}
use Rattle.facet_json_grammar.specs.Tree as trees
use Rattle.facet_json_tree.proofs.TreeViews.{tree_view-List, tree_view-Pairs}
use Rattle.facet_json_tree.specs.Content.{may_allocate}
use Rattle.facet_json_document.proofs.NodesSeen.{empty-value, list-of, object-of, leaf-of, nothing-of}
use Rattle.facet_json_document.proofs.TreesCopied.{items-copied, members-copied}
use Rattle.facet_json_document.proofs.document.value.copying.+copy.Goals as goal

pub copy_items-returns : goal.copy_items-returns
copy_items-returns t c =
    items-copied c.args.value.now c.loop-next.copies.items c.loop-next.at c.loop-next.invariant.copied c.in_default.ensures

pub copy_members-returns : goal.copy_members-returns
copy_members-returns t c =
    members-copied c.args.value.now c.loop-key.copies.items c.loop-key.at c.loop-key.invariant.copied c.in_default.ensures

pub copy_value-returns-in_default : goal.copy_value-returns-in_default
copy_value-returns-in_default t c = c.no_value.ensures ∙ sym (empty-value c.args.value.now c.in_default.ensures)

pub copy_value-returns-in_err-copy_items : goal.copy_value-returns-in_err-copy_items
copy_value-returns-in_err-copy_items t c =
    let p = err_from_is_err_and c.from_residual.result c.from_residual.ensures.1 in
    rw p.1 (ap may_allocate (list-of c.args.value.now _ c.in-Some.ensures (sym (c.if-is_list.ensures _))))

pub copy_value-returns-then-is_list : goal.copy_value-returns-then-is_list
copy_value-returns-then-is_list t c =
    tree_view-List _ ∙ ap trees.list c.in_ok-copy_items.ensures ∙ sym (list-of c.args.value.now _ c.in-Some.ensures (sym (c.if-is_list.ensures _)))

pub copy_value-returns-in_err-copy_members : goal.copy_value-returns-in_err-copy_members
copy_value-returns-in_err-copy_members t c =
    let p = err_from_is_err_and c.from_residual-in_err-copy_members.result c.from_residual-in_err-copy_members.ensures.1 in
    rw p.1 (ap may_allocate (object-of c.args.value.now _ c.in-Some.ensures (sym (c.if-is_object.ensures _))))

pub copy_value-returns-then-is_object : goal.copy_value-returns-then-is_object
copy_value-returns-then-is_object t c =
    tree_view-Pairs _ ∙ ap trees.pairs c.in_ok-copy_members.ensures
    ∙ sym (object-of c.args.value.now _ c.in-Some.ensures (sym (c.if-is_object.ensures _)))

pub copy_value-returns-in-Some-leaf : goal.copy_value-returns-in-Some-leaf
copy_value-returns-in-Some-leaf t c = rw (leaf-of c.args.value.now _ _ c.in-Some.ensures c.in-Some-leaf.ensures) c.copy_leaf.ensures

pub copy_value-returns-in-None : goal.copy_value-returns-in-None
copy_value-returns-in-None t c =
    c.no_value-in-None.ensures
    ∙ sym (nothing-of c.args.value.now _ c.in-Some.ensures c.in-None.ensures (sym (c.if-is_list.ensures _)) (sym (c.if-is_object.ensures _)))
