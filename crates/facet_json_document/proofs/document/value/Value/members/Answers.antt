use Rattle.std.proofs.Common.{suc, Some, arith, sym, ap, ◌∙◌}
use Rattle.std.specs.Prelude.{map}
use Rattle.std.specs.Option.{option_map}
use Rattle.facet_json_tree.specs.Content.{as_pairs}
use Rattle.facet_json_document.specs.Nodes.{member_value, members, object_members, pairs_list}
use Rattle.facet_json_document.proofs.NodesSeen.{empty-value, member-values, members-are, no-member_nodes, no-pairs, nodes-left, object-of}
use Rattle.facet_json_document.proofs.document.value.Value.members.Goals as goal

pub returns-in_err-node-clause-nodes : goal.returns-in_err-node-clause-nodes
returns-in_err-node-clause-nodes c = rw c.from_residual.ensures (sym (ap object_members c.in_err-node.ensures))

pub returns-in_err-node-clause-values : goal.returns-in_err-node-clause-values
returns-in_err-node-clause-values c =
    rw c.from_residual.ensures (sym (ap (λ t. option_map pairs_list (as_pairs t)) (empty-value c.args.self.now c.in_err-node.ensures)))

pub returns-then-not-is_object-clause-nodes : goal.returns-then-not-is_object-clause-nodes
returns-then-not-is_object-clause-nodes c = sym (no-member_nodes c.args.self.now _ c.in_ok-node.ensures (sym (c.if-not-is_object.ensures _)))

pub returns-then-not-is_object-clause-values : goal.returns-then-not-is_object-clause-values
returns-then-not-is_object-clause-values c = sym (ap (option_map pairs_list) (no-pairs c.args.self.now c.in_ok-node.node.now c.in_ok-node.ensures (sym (c.if-not-is_object.ensures _))))

pub returns-clause-nodes : goal.returns-clause-nodes
returns-clause-nodes c =
    let left = nodes-left c.new.result.document.now c.args.self.now.document.now c.new.result.at (suc c.args.self.now.index) c.new.ensures.same (c.new.ensures.at ∙ omega arith) in
    ap (λ l. Some (members 0 l)) left ∙ sym (members-are c.args.self.now _ c.in_ok-node.ensures (sym (c.if-not-is_object.ensures _)))

pub returns-clause-values : goal.returns-clause-values
returns-clause-values c =
    let left = nodes-left c.new.result.document.now c.args.self.now.document.now c.new.result.at (suc c.args.self.now.index) c.new.ensures.same (c.new.ensures.at ∙ omega arith) in
    ap (λ l. Some (map member_value (members 0 l))) left ∙ ap Some (member-values c.args.self.now)
    ∙ sym (ap (λ t. option_map pairs_list (as_pairs t)) (object-of c.args.self.now _ c.in_ok-node.ensures (sym (c.if-not-is_object.ensures _))))
