use Rattle.std.proofs.Common.{sym, arith}
use Rattle.facet_json_document.proofs.NodesSeen.{item-later, no-item-left}
use Rattle.facet_json_document.proofs.document.value.Value.item_of_list.Goals as goal

pub returns-in_err-at : goal.returns-in_err-at
returns-in_err-at c = rw c.from_residual.ensures (sym (no-item-left c.args.self.now c.loop-left.at c.loop-left.left _ c.loop-left.invariant c.in_err-at.ensures))

pub loop-left-preserved : goal.loop-left-preserved
loop-left-preserved c = item-later c.args.self.now c.loop-left.at _ c.loop-left.left _ c.loop-left.invariant c.in_ok-at.ensures (omega arith)
