use Rattle.std.proofs.Common.{rules}
use Rattle.facet_json_reader.proofs.refusal.RefusedFromFault.from.Goals as goal

pub returns : goal.returns
returns c = search rules
