use Rattle.std.proofs.Common.{rules}
use Rattle.facet_json_token.proofs.cutting.unexpected_char.Goals as goal

pub returns : goal.returns
returns c = search rules
