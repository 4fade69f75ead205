use Rattle.std.proofs.Common.{rules}
use Rattle.facet_json_reader.proofs.refusal.Name.text.Goals as goal

pub returns-in-Decimal : goal.returns-in-Decimal
returns-in-Decimal c = search rules

pub returns-in-Number : goal.returns-in-Number
returns-in-Number c = search rules
