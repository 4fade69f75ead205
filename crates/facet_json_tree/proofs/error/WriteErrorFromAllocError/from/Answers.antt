use Rattle.std.proofs.Common.{rules}
use Rattle.facet_json_tree.proofs.error.WriteErrorFromAllocError.from.Goals as goal

pub returns : goal.returns
returns c = search rules
