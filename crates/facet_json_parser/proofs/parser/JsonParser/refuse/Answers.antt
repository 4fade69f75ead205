use Rattle.std.proofs.Common.{rules}
use Rattle.facet_json_parser.proofs.parser.JsonParser.refuse.Goals as goal

pub returns-clause-error : goal.returns-clause-error
returns-clause-error c = search rules

pub returns-clause-kept : goal.returns-clause-kept
returns-clause-kept c = search rules
