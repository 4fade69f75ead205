use Rattle.facet_format.specs.Number.{float}
use Rattle.facet_format.proofs.NumberText.{number-IsUtf8}
use Rattle.facet_json_token.proofs.number.measured_decimal.Goals as goal

pub from_utf8_unchecked-text-requires : goal.from_utf8_unchecked-text-requires
from_utf8_unchecked-text-requires c = number-IsUtf8 c.args.text.now float c.requires
