use Rattle.std.proofs.Common.{◌≡◌, arith, rules}
use Rattle.facet_json_document.proofs.NodesSeen.{node-stands, no-node}
use Rattle.facet_json_document.proofs.document.value.Value.node.Goals as goal

pub returns-in-Some : goal.returns-in-Some
returns-in-Some c =
    let same : c.deref.result.now ≡ c.args.self.now.document.now.nodes.items = search rules in
    node-stands c.args.self.now c.args.at c.in-Some.node.now (rw same at c.in-Some.ensures.lookup.3)

pub returns-in-None : goal.returns-in-None
returns-in-None c =
    let same : c.deref.result.now ≡ c.args.self.now.document.now.nodes.items = search rules in
    let behind = rw same at c.in-None.ensures.lookup in
    no-node c.args.self.now c.args.at (omega (arith, behind))
