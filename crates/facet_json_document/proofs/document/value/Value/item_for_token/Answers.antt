use Rattle.std.proofs.Common.{suc, sym, ap, ◌∙◌, arith}
use Rattle.std.specs.Prelude.{option_and_then, option_map, slice_get}
use Rattle.facet_json_tree.specs.Pointer.{index}
use Rattle.facet_json_tree.proofs.PointerIndex.{index-unescaped}
use Rattle.facet_json_document.specs.Inner.Looking.{from}
use Rattle.facet_json_document.specs.Nodes.{items, nodes_from}
use Rattle.facet_json_document.proofs.PointersSeen.{item-past, item-large}
use Rattle.facet_json_document.proofs.document.value.Value.item_for_token.Goals as goal

pub returns-in_err-index : goal.returns-in_err-index
returns-in_err-index c =
    let v = c.args.self.now in
    let token = c.args.token.now in
    let none = item-large v (suc v.index) (index token) (omega arith) c.in_err-index.ensures in
    ap (option_map nodes_from) c.from_residual.ensures
    ∙ sym (ap (option_and_then (slice_get (items 0 (from v (suc v.index))))) (index-unescaped token) ∙ none)

pub returns-then-index-most : goal.returns-then-index-most
returns-then-index-most c =
    let v = c.args.self.now in
    c.item_of_list.ensures
    ∙ sym (ap (option_and_then (slice_get (items 0 (from v (suc v.index))))) (index-unescaped c.args.token.now ∙ c.in_ok-index.ensures))

pub returns-else-index-most : goal.returns-else-index-most
returns-else-index-most c =
    let v = c.args.self.now in
    let at = ap (option_and_then (slice_get (items 0 (from v (suc v.index))))) (index-unescaped c.args.token.now ∙ c.in_ok-index.ensures) in
    sym (at ∙ item-past v (suc v.index) c.in_ok-index.index (omega arith))
