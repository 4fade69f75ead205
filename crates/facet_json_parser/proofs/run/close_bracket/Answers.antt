use Rattle.std.proofs.Common.{rules}
use Rattle.facet_json_parser.proofs.run.close_bracket.Goals as goal

pub returns-in_default : goal.returns-in_default
returns-in_default c = search rules

pub returns-in-Object-Array : goal.returns-in-Object-Array
returns-in-Object-Array c = search rules

pub returns-in-Array-Object : goal.returns-in-Array-Object
returns-in-Array-Object c = search rules
