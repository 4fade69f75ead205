use Rattle.facet_json_document.proofs.NodeBytes.{quoted-tested}
use Rattle.facet_json_document.proofs.document.built.Built.add_text.Goals as goal

pub invariant_of-also : goal.invariant_of-also
invariant_of-also c = record { sound = quoted-tested _ c.requires }
