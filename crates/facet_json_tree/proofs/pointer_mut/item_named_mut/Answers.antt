use Rattle.std.proofs.Common.{sym, ap, ◌∙◌, arith}
use Rattle.std.specs.Prelude.{option_and_then, option_map}
use Rattle.facet_json_tree.specs.Lookup.{item_at}
use Rattle.facet_json_tree.specs.Pointer.{index}
use Rattle.facet_json_tree.specs.Views.{tree_view, trees_view}
use Rattle.facet_json_tree.proofs.PointerIndex.{index-unescaped, item_at-large}
use Rattle.facet_json_tree.proofs.pointer_mut.item_named_mut.Goals as goal

pub returns-in_err-index : goal.returns-in_err-index
returns-in_err-index c =
    ap (option_map (λ t. tree_view t.now)) c.from_residual.ensures
    ∙ sym (ap (option_and_then (λ n. item_at n (trees_view c.args.items.now))) (index-unescaped c.args.token.now)
    ∙ item_at-large c.args.items.now (index c.args.token.now) (omega arith) c.in_err-index.ensures)

pub returns : goal.returns
returns c =
    c.item_of_mut.ensures
    ∙ ap (option_and_then (λ n. item_at n (trees_view c.args.items.now))) (sym (index-unescaped c.args.token.now ∙ c.in_ok-index.ensures))
