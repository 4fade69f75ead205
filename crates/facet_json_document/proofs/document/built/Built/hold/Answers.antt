use Rattle.std.proofs.Common.{◌≡◌, length, reverse, ap, ◌∙◌, rules}
use Rattle.facet_json_document.specs.Nodes.{nodes_view}
use Rattle.facet_json_document.proofs.NodesHeld.{same-views, pushed-there}
use Rattle.facet_json_document.proofs.document.built.Built.hold.Goals as goal

pub returns-clause-same : goal.returns-clause-same
returns-clause-same c =
    let old = c.args.self.now in
    let seen = ap (λ h. nodes_view h old.nodes.items) c.in_ok-push.ensures.items
    ∙ same-views old.held.items c.args.value old.nodes.items old.sound in
    ap (λ l. record { input = old.input.now; nodes = l; unclosed = reverse old.unclosed.items }) seen

pub returns-clause-held : goal.returns-clause-held
returns-clause-held c =
    let long : c.len.result ≡ length c.args.self.now.held.items = search rules in
    pushed-there c.args.self.now.held.items _ c.args.value c.in_ok-at.at (c.in_ok-at.ensures ∙ long) c.in_ok-push.ensures.items
