use Rattle.std.proofs.Common.{rules}
use Rattle.facet_json_core.proofs.raw.RawJson.into_owned.Goals as goal

pub returns-in-Owned : goal.returns-in-Owned
returns-in-Owned c = search rules
