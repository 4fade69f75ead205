use Rattle.std.proofs.Common.{rules}
use Rattle.facet_json_parser.proofs.parser.JsonParserFormatParser.format_namespace.Goals as goal

pub returns-clause-name : goal.returns-clause-name
returns-clause-name c = search rules

pub returns-clause-given : goal.returns-clause-given
returns-clause-given c = search rules
