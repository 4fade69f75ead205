use Rattle.std.proofs.Common.{rules}
use Rattle.facet_json_serializer.proofs.quote.plain_short.Goals as goal

pub returns-then-plain_16 : goal.returns-then-plain_16
returns-then-plain_16 c = search rules

pub returns-else-plain_16 : goal.returns-else-plain_16
returns-else-plain_16 c = search rules

pub returns-then-plain_8 : goal.returns-then-plain_8
returns-then-plain_8 c = search rules

pub returns-else-plain_8 : goal.returns-else-plain_8
returns-else-plain_8 c = search rules
