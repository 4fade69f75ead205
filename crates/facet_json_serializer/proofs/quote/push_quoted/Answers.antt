use Rattle.std.proofs.Common.{rules}
use Rattle.facet_json_serializer.proofs.quote.push_quoted.Goals as goal

pub returns : goal.returns
returns c = search rules
