use Rattle.facet_json_document.proofs.NodeBytes.{quoted-told}
use Rattle.facet_json_document.proofs.document.node.Node.name.Goals as goal

pub unquoted-requires : goal.unquoted-requires
unquoted-requires c = quoted-told _ (rw c.in-Key.is at c.args.self.now.sound)
