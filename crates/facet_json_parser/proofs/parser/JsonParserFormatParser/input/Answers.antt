use Rattle.std.proofs.Common.{rules}
use Rattle.facet_json_parser.proofs.parser.JsonParserFormatParser.input.Goals as goal

pub returns-clause-bytes : goal.returns-clause-bytes
returns-clause-bytes c = search rules

pub returns-clause-given : goal.returns-clause-given
returns-clause-given c = search rules
