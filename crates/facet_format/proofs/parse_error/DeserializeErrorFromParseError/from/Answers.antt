use Rattle.std.proofs.Common.{refl}
use Rattle.facet_format.proofs.parse_error.DeserializeErrorFromParseError.from.Goals as goal

pub returns : goal.returns
returns c = refl
