use Rattle.std.proofs.Common.{suc, Some, arith, sym, ap, ◌∙◌}
use Rattle.std.specs.Prelude.{map}
use Rattle.std.specs.Option.{option_map}
use Rattle.facet_json_tree.specs.Content.{as_list}
use Rattle.facet_json_document.specs.Nodes.{items, list_items, trees_list, first_value}
use Rattle.facet_json_document.proofs.NodesSeen.{empty-value, items-are, item-values, list-of, no-item_nodes, no-list, nodes-left}
use Rattle.facet_json_document.proofs.document.value.Value.items.Goals as goal

pub returns-in_err-node-clause-nodes : goal.returns-in_err-node-clause-nodes
returns-in_err-node-clause-nodes c = rw c.from_residual.ensures (sym (ap list_items c.in_err-node.ensures))

pub returns-in_err-node-clause-values : goal.returns-in_err-node-clause-values
returns-in_err-node-clause-values c =
    rw c.from_residual.ensures (sym (ap (λ t. option_map trees_list (as_list t)) (empty-value c.args.self.now c.in_err-node.ensures)))

pub returns-then-not-is_list-clause-nodes : goal.returns-then-not-is_list-clause-nodes
returns-then-not-is_list-clause-nodes c = sym (no-item_nodes c.args.self.now _ c.in_ok-node.ensures (sym (c.if-not-is_list.ensures _)))

pub returns-then-not-is_list-clause-values : goal.returns-then-not-is_list-clause-values
returns-then-not-is_list-clause-values c = sym (ap (option_map trees_list) (no-list c.args.self.now c.in_ok-node.node.now c.in_ok-node.ensures (sym (c.if-not-is_list.ensures _))))

pub returns-clause-nodes : goal.returns-clause-nodes
returns-clause-nodes c =
    let left = nodes-left c.new.result.document.now c.args.self.now.document.now c.new.result.at (suc c.args.self.now.index) c.new.ensures.same (c.new.ensures.at ∙ omega arith) in
    ap (λ l. Some (items 0 l)) left ∙ sym (items-are c.args.self.now _ c.in_ok-node.ensures (sym (c.if-not-is_list.ensures _)))

pub returns-clause-values : goal.returns-clause-values
returns-clause-values c =
    let left = nodes-left c.new.result.document.now c.args.self.now.document.now c.new.result.at (suc c.args.self.now.index) c.new.ensures.same (c.new.ensures.at ∙ omega arith) in
    ap (λ l. Some (map first_value (items 0 l))) left ∙ ap Some (item-values c.args.self.now)
    ∙ sym (ap (λ t. option_map trees_list (as_list t)) (list-of c.args.self.now _ c.in_ok-node.ensures (sym (c.if-not-is_list.ensures _))))
