use Rattle.std.proofs.Common.{rules}
use Rattle.facet_json_serializer.proofs.quote.hex_digit.Goals as goal

pub returns-then-n-lt10 : goal.returns-then-n-lt10
returns-then-n-lt10 c = search rules

pub returns-else-n-lt10 : goal.returns-else-n-lt10
returns-else-n-lt10 c = search rules
