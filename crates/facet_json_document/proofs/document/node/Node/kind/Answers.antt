use Rattle.std.proofs.Common.{sym}
use Rattle.facet_json_document.specs.OwnNumber.{own_number}
use Rattle.facet_json_document.proofs.NodeBytes.{small-kind}
use Rattle.facet_json_document.proofs.document.node.Node.kind.Goals as goal

pub returns-in-Number : goal.returns-in-Number
returns-in-Number c =
    λ later.
    let is = c.in-Number.is in
    let small = rw is at c.args.self.now.sound in
    rw is (sym (small-kind (own_number c.args.self.now.text.now) small))
