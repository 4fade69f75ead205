use Rattle.std.proofs.Common.{◌≡◌, ap, ◌∙◌, arith, rules}
use Rattle.facet_json_document.specs.Inner.Looking.{from, many, seen}
use Rattle.facet_json_document.specs.Nodes.{inner_len}
use Rattle.facet_json_document.proofs.NodesSeen.{past-there, past-end}
use Rattle.facet_json_document.proofs.document.value.Value.past.Goals as goal

pub returns-then-inner-len-clause-left : goal.returns-then-inner-len-clause-left
returns-then-inner-len-clause-left c = past-there c.args.self.now c.args.at _ c.inner-inner.result (c.inner-inner.ensures _)

pub returns-else-inner-len-clause-left : goal.returns-else-inner-len-clause-left
returns-else-inner-len-clause-left c =
    let v = c.args.self.now in
    let long : c.len-len.result ≡ many v = search rules in
    let inner = c.inner-inner.ensures v.document.now.held.items in
    ap (from v) long ∙ past-end v c.args.at (inner_len (seen v c.args.node.now)) (omega (arith, c.requires, inner, long, c.if-inner-len.false))
