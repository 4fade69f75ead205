use Rattle.std.proofs.Common.{rules}
use Rattle.facet_json_serializer.proofs.quote.push_long.Goals as goal

pub returns-in_err-push_opening : goal.returns-in_err-push_opening
returns-in_err-push_opening c = search rules

pub returns-in_err-push_content : goal.returns-in_err-push_content
returns-in_err-push_content c = search rules
