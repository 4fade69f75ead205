use Rattle.std.proofs.Common.{sym, ap, ◌∙◌, arith}
use Rattle.std.specs.Prelude.{option_and_then, option_map}
use Rattle.facet_json_tree.specs.Lookup.{item_at}
use Rattle.facet_json_tree.specs.Pointer.{index}
use Rattle.facet_json_tree.specs.Views.{tree_view, trees_view}
use Rattle.facet_json_tree.proofs.Lookups.{item_at-read, item_at-past}
use Rattle.facet_json_tree.proofs.PointerIndex.{index-unescaped, item_at-large}
use Rattle.facet_json_tree.proofs.pointer.item_named.Goals as goal

pub returns-in_err-index : goal.returns-in_err-index
returns-in_err-index c =
    let token = c.args.token.now in
    let items = c.args.items.now in
    let none = item_at-large items (index token) (omega arith) c.in_err-index.ensures in
    ap (option_map (λ t. tree_view t.now)) c.from_residual.ensures
    ∙ sym (ap (option_and_then (λ n. item_at n (trees_view items))) (index-unescaped token) ∙ none)

pub returns-then-index-count : goal.returns-then-index-count
returns-then-index-count c =
    let i = c.in_ok-index.index in
    let items = c.args.items.now in
    let at = ap (option_and_then (λ n. item_at n (trees_view items))) (index-unescaped c.args.token.now ∙ c.in_ok-index.ensures) in
    item_at-read items i _ (omega arith) c.index-items-index.is ∙ sym at

pub returns-else-index-count : goal.returns-else-index-count
returns-else-index-count c =
    let i = c.in_ok-index.index in
    let items = c.args.items.now in
    let at = ap (option_and_then (λ n. item_at n (trees_view items))) (index-unescaped c.args.token.now ∙ c.in_ok-index.ensures) in
    sym (item_at-past items i (omega arith)) ∙ sym at
