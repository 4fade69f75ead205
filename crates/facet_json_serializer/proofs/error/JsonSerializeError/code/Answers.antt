use Rattle.std.proofs.Common.{rules}
use Rattle.facet_json_serializer.proofs.error.JsonSerializeError.code.Goals as goal

pub returns-in-NoStructToEnd : goal.returns-in-NoStructToEnd
returns-in-NoStructToEnd c = search rules
