use Rattle.std.proofs.Common.{rules}
use Rattle.facet_json_core.proofs.value.depth_after.Goals as goal

pub returns-in-Some : goal.returns-in-Some
returns-in-Some c = search rules
