use Rattle.std.proofs.Common.{sym}
use Rattle.facet_json_document.proofs.NodesSeen.{item-begins}
use Rattle.facet_json_document.proofs.document.value.Value.item_there.Goals as goal

pub returns : goal.returns
returns c = item-begins c.args.self.now c.at.result c.args.at _ c.in_ok-node.ensures (sym (c.if-is_end.ensures _)) c.at.ensures.same c.at.ensures.index
