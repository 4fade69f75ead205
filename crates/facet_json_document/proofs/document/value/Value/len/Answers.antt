use Rattle.std.proofs.Common.{suc, Some, sym, ap, ◌∙◌}
use Rattle.facet_json_document.specs.Inner.Looking.{from}
use Rattle.facet_json_document.specs.Nodes.{items, members, len}
use Rattle.facet_json_document.proofs.NodeTrees.{trees_len-from, pairs_len-from}
use Rattle.facet_json_document.proofs.NodesSeen.{empty-value, list-of, object-of, no-len}
use Rattle.facet_json_document.proofs.document.value.Value.len.Goals as goal

pub returns-in_err-node : goal.returns-in_err-node
returns-in_err-node c = rw c.from_residual.ensures (sym (ap len (empty-value c.args.self.now c.in_err-node.ensures)))

pub returns-then-is_list : goal.returns-then-is_list
returns-then-is_list c =
    ap Some (c.items_len.ensures ∙ sym (trees_len-from (items 0 (from c.args.self.now (suc c.args.self.now.index)))))
    ∙ sym (ap len (list-of c.args.self.now _ c.in_ok-node.ensures (sym (c.if-is_list.ensures _))))

pub returns-then-is_object : goal.returns-then-is_object
returns-then-is_object c =
    ap Some (c.members_len.ensures ∙ sym (pairs_len-from (members 0 (from c.args.self.now (suc c.args.self.now.index)))))
    ∙ sym (ap len (object-of c.args.self.now _ c.in_ok-node.ensures (sym (c.if-is_object.ensures _))))

pub returns : goal.returns
returns c = sym (no-len c.args.self.now c.in_ok-node.node.now c.in_ok-node.ensures (sym (c.if-is_list.ensures _)) (sym (c.if-is_object.ensures _)))
