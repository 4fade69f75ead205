use Rattle.facet_json_document.proofs.NodesSeen.{no-leaf, leaf-told}
use Rattle.facet_json_document.proofs.document.value.Value.leaf.Goals as goal

pub returns-in_err-node : goal.returns-in_err-node
returns-in_err-node c = rw c.from_residual.ensures (no-leaf c.args.self.now c.in_err-node.ensures)

pub returns : goal.returns
returns c = leaf-told c.args.self.now _ c.leaf.result c.in_ok-node.ensures c.leaf.ensures
