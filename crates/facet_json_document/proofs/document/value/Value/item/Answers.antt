use Rattle.std.proofs.Common.{sym, ap, ◌∙◌}
use Rattle.std.specs.Prelude.{slice_get}
use Rattle.std.specs.Option.{option_and_then}
use Rattle.facet_json_tree.specs.Lookup.{item}
use Rattle.facet_json_document.specs.Nodes.{item_nodes}
use Rattle.facet_json_document.proofs.NodesSeen.{empty-value, items-are, no-item_nodes, no-items, item-value}
use Rattle.facet_json_document.proofs.document.value.Value.item.Goals as goal

pub returns-in_err-node-clause-nodes : goal.returns-in_err-node-clause-nodes
returns-in_err-node-clause-nodes c = rw c.from_residual.ensures (sym (ap (item_nodes c.args.index) c.in_err-node.ensures))

pub returns-in_err-node-clause-value : goal.returns-in_err-node-clause-value
returns-in_err-node-clause-value c = rw c.from_residual.ensures (sym (ap (item c.args.index) (empty-value c.args.self.now c.in_err-node.ensures)))

pub returns-then-not-is_list-clause-nodes : goal.returns-then-not-is_list-clause-nodes
returns-then-not-is_list-clause-nodes c =
    sym (ap (option_and_then (λ held. slice_get held c.args.index)) (no-item_nodes c.args.self.now _ c.in_ok-node.ensures (sym (c.if-not-is_list.ensures _))))

pub returns-then-not-is_list-clause-value : goal.returns-then-not-is_list-clause-value
returns-then-not-is_list-clause-value c = sym (no-items c.args.self.now c.in_ok-node.node.now c.args.index c.in_ok-node.ensures (sym (c.if-not-is_list.ensures _)))

pub returns-clause-nodes : goal.returns-clause-nodes
returns-clause-nodes c =
    c.item_of_list.ensures
    ∙ sym (ap (option_and_then (λ held. slice_get held c.args.index)) (items-are c.args.self.now _ c.in_ok-node.ensures (sym (c.if-not-is_list.ensures _))))

pub returns-clause-value : goal.returns-clause-value
returns-clause-value c = item-value c.args.self.now _ c.args.index _ c.in_ok-node.ensures (sym (c.if-not-is_list.ensures _)) c.item_of_list.ensures
