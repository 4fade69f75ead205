use Rattle.std.proofs.Common.{rules}
use Rattle.facet_json_core.proofs.raw.RawJson.as_str.Goals as goal

pub returns : goal.returns
returns c = search rules
