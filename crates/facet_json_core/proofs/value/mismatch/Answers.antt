use Rattle.std.proofs.Common.{rules}
use Rattle.facet_json_core.proofs.value.mismatch.Goals as goal

pub returns : goal.returns
returns c = search rules
