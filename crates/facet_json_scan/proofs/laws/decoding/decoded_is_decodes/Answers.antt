use Rattle.facet_json_token.proofs.DecodeLaws as laws
use Rattle.facet_json_scan.proofs.laws.decoding.decoded_is_decodes.Goals as goal

pub returns : goal.returns
returns c = laws.decoded_is_decodes
