use Rattle.std.proofs.Common.{sym, ap, ◌∙◌}
use Rattle.facet_json_tree.specs.Inner.PointerParts.{unescaped}
use Rattle.facet_json_tree.specs.Pointer.{child}
use Rattle.facet_json_document.specs.Nodes.{child_nodes}
use Rattle.facet_json_document.proofs.NodesSeen.{empty-value}
use Rattle.facet_json_document.proofs.PointersSeen.{child-item, child-item_value, child-member, child-member_value, no-child, no-child_nodes}
use Rattle.facet_json_document.proofs.document.value.Value.child.Goals as goal

pub returns-in_err-node-clause-nodes : goal.returns-in_err-node-clause-nodes
returns-in_err-node-clause-nodes c = rw c.from_residual.ensures (sym (ap (child_nodes (unescaped c.args.token.now)) c.in_err-node.ensures))

pub returns-then-is_object-clause-nodes : goal.returns-then-is_object-clause-nodes
returns-then-is_object-clause-nodes c =
    c.last_for_token.ensures ∙ sym (child-member c.args.self.now _ (unescaped c.args.token.now) c.in_ok-node.ensures (sym (c.if-is_object.ensures _)))

pub returns-then-is_list-clause-nodes : goal.returns-then-is_list-clause-nodes
returns-then-is_list-clause-nodes c =
    c.item_for_token.ensures ∙ sym (child-item c.args.self.now _ (unescaped c.args.token.now) c.in_ok-node.ensures (sym (c.if-is_list.ensures _)))

pub returns-clause-nodes : goal.returns-clause-nodes
returns-clause-nodes c =
    sym (no-child_nodes c.args.self.now _ (unescaped c.args.token.now) c.in_ok-node.ensures (sym (c.if-is_object.ensures _)) (sym (c.if-is_list.ensures _)))

pub returns-in_err-node-clause-value : goal.returns-in_err-node-clause-value
returns-in_err-node-clause-value c =
    rw c.from_residual.ensures (sym (ap (child (unescaped c.args.token.now)) (empty-value c.args.self.now c.in_err-node.ensures)))

pub returns-then-is_object-clause-value : goal.returns-then-is_object-clause-value
returns-then-is_object-clause-value c =
    child-member_value c.args.self.now _ (unescaped c.args.token.now) _ c.in_ok-node.ensures (sym (c.if-is_object.ensures _)) c.last_for_token.ensures

pub returns-then-is_list-clause-value : goal.returns-then-is_list-clause-value
returns-then-is_list-clause-value c =
    child-item_value c.args.self.now _ (unescaped c.args.token.now) _ c.in_ok-node.ensures (sym (c.if-is_list.ensures _)) c.item_for_token.ensures

pub returns-clause-value : goal.returns-clause-value
returns-clause-value c =
    sym (no-child c.args.self.now c.in_ok-node.node.now (unescaped c.args.token.now) c.in_ok-node.ensures (sym (c.if-is_object.ensures _)) (sym (c.if-is_list.ensures _)))
