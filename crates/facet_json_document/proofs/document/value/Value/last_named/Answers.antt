use Rattle.std.proofs.Common.{◌+◌, arith}
use Rattle.facet_json_document.proofs.NodesSeen.{member-found}
use Rattle.facet_json_document.proofs.document.value.Value.last_named.Goals as goal

pub loop-name-preserved-then-eq : goal.loop-name-preserved-then-eq
loop-name-preserved-then-eq c =
    let i = c.loop-name.invariant in
    let m = c.in-Some.ensures in
    record {
      rest = member-found c.args.self.now c.at.result c.loop-name.at (c.loop-name.at + 1) c.in-Some.next _ _ _ _ i.rest m c.if-eq.ensures c.at.ensures.same c.at.ensures.index (omega arith);
      within = m.within;
    }
