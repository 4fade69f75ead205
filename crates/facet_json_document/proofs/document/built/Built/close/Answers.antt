use Rattle.std.proofs.Common.{◌≡◌, ◌-◌, ap, ap₂, ◌∙◌, arith, length, rules}
use Rattle.facet_json_document.specs.Inner.Building.{container}
use Rattle.facet_json_document.proofs.NodesHeld.{container-closed, none-closed}
use Rattle.facet_json_document.proofs.document.built.Built.close.Goals as goal

pub returns-in-Ok-clause-closed : goal.returns-in-Ok-clause-closed
returns-in-Ok-clause-closed c =
    let old = c.args.self.now in
    let long : c.len-len.result ≡ length old.nodes.items = search rules in
    let own = c.container_node-node.ensures.node old.held.items in
    container-closed old.input.now old.held.items _ _ _ _ c.in-Some.opened _ (container c.args.kind) c.args.end c.in-Some.ensures.items
    c.put.ensures.items (own ∙ ap₂ (container c.args.kind) c.bytes_between.ensures (c.in-Ok.ensures ∙ ap (λ n. n - c.in-Some.opened.index) long))

pub returns-then-len-opened-clause-closed : goal.returns-then-len-opened-clause-closed
returns-then-len-opened-clause-closed c =
    let old = c.args.self.now in
    let long : c.len-len.result ≡ length old.nodes.items = search rules in
    none-closed old.input.now old.held.items old.nodes.items _ _ c.in-Some.opened (container c.args.kind) c.args.end c.in-Some.ensures.items
    (omega (arith, long, c.if-len-opened.true))
