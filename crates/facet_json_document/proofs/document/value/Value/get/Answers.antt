use Rattle.std.proofs.Common.{sym, ap, ◌∙◌}
use Rattle.std.specs.Option.{option_and_then}
use Rattle.facet_json_tree.specs.Lookup.{member}
use Rattle.facet_json_document.specs.Nodes.{last_named, member_nodes}
use Rattle.facet_json_document.proofs.NodesSeen.{empty-value, members-are, no-member_nodes, no-members, member-value}
use Rattle.facet_json_document.proofs.document.value.Value.get.Goals as goal

pub returns-in_err-node-clause-nodes : goal.returns-in_err-node-clause-nodes
returns-in_err-node-clause-nodes c = rw c.from_residual.ensures (sym (ap (member_nodes c.args.key.now) c.in_err-node.ensures))

pub returns-in_err-node-clause-value : goal.returns-in_err-node-clause-value
returns-in_err-node-clause-value c = rw c.from_residual.ensures (sym (ap (member c.args.key.now) (empty-value c.args.self.now c.in_err-node.ensures)))

pub returns-then-not-is_object-clause-nodes : goal.returns-then-not-is_object-clause-nodes
returns-then-not-is_object-clause-nodes c =
    sym (ap (option_and_then (last_named c.args.key.now)) (no-member_nodes c.args.self.now _ c.in_ok-node.ensures (sym (c.if-not-is_object.ensures _))))

pub returns-then-not-is_object-clause-value : goal.returns-then-not-is_object-clause-value
returns-then-not-is_object-clause-value c = sym (no-members c.args.self.now c.in_ok-node.node.now c.args.key.now c.in_ok-node.ensures (sym (c.if-not-is_object.ensures _)))

pub returns-clause-nodes : goal.returns-clause-nodes
returns-clause-nodes c =
    c.last_named.ensures
    ∙ sym (ap (option_and_then (last_named c.args.key.now)) (members-are c.args.self.now _ c.in_ok-node.ensures (sym (c.if-not-is_object.ensures _))))

pub returns-clause-value : goal.returns-clause-value
returns-clause-value c = member-value c.args.self.now _ c.args.key.now _ c.in_ok-node.ensures (sym (c.if-not-is_object.ensures _)) c.last_named.ensures
