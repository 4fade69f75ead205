use Rattle.std.proofs.Common.{◌+◌, ap, ◌∙◌, arith}
use Rattle.facet_json_tree.specs.Inner.PointerParts.{unescaped}
use Rattle.facet_json_tree.specs.Same.{same_bytes}
use Rattle.facet_json_document.proofs.NodesSeen.{member-found}
use Rattle.facet_json_document.proofs.document.value.Value.last_for_token.Goals as goal

pub loop-name-preserved-then-stands_for : goal.loop-name-preserved-then-stands_for
loop-name-preserved-then-stands_for c =
    let i = c.loop-name.invariant in
    let m = c.in-Some.ensures in
    let named = c.if-stands_for.ensures ∙ ap (λ name. same_bytes name (unescaped c.args.token.now)) c.as_bytes.ensures.value in
    record {
      rest = member-found c.args.self.now c.at.result c.loop-name.at (c.loop-name.at + 1) c.in-Some.next _ _ _ _ i.rest m named c.at.ensures.same c.at.ensures.index (omega arith);
      within = m.within;
    }
