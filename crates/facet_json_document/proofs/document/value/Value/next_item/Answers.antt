use Rattle.std.proofs.Common.{sym}
use Rattle.facet_json_document.proofs.NodesSeen.{item-stands}
use Rattle.facet_json_document.proofs.document.value.Value.next_item.Goals as goal

pub returns : goal.returns
returns c =
    item-stands c.args.self.now c.args.at c.past.result _ c.in_ok-node.ensures (sym (c.if-is_end.ensures _)) c.past.ensures.left c.past.ensures.further
    c.past.ensures.within
