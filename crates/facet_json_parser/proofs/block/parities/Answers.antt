use Rattle.facet_json_parser.proofs.Bits.Prefix.{prefix}
use Rattle.facet_json_parser.proofs.block.parities.Goals as goal

pub returns : goal.returns
returns c = prefix c.args.x
