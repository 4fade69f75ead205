use Rattle.std.proofs.Common.{rules}
use Rattle.facet_json_serializer.proofs.options.push_colon.Goals as goal

pub returns-then-options : goal.returns-then-options
returns-then-options c = search rules

pub returns-else-options : goal.returns-else-options
returns-else-options c = search rules
