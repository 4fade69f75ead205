use Rattle.std.proofs.Common.{◌+◌, arith}
use Rattle.facet_json_document.proofs.NodesSeen.{member-stands}
use Rattle.facet_json_document.proofs.document.value.Value.member_there.Goals as goal

pub returns : goal.returns
returns c =
    member-stands c.args.self.now c.args.at (c.args.at + 1) c.past.result _ _ _ c.in_ok-key.ensures c.in_ok-name.ensures (omega arith) c.in_ok-value.ensures
    c.past.ensures.left c.past.ensures.further c.past.ensures.within
