use Rattle.facet_json_document.proofs.NodeBytes.{small-utf8}
use Rattle.facet_json_document.proofs.document.node.told.plain_number.Goals as goal

pub from_utf8_unchecked-requires : goal.from_utf8_unchecked-requires
from_utf8_unchecked-requires c = small-utf8 c.args.text.now c.requires
