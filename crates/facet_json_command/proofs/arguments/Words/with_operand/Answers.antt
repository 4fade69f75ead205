use Rattle.std.proofs.Common.{ap, rules}
use Rattle.facet_json_command.specs.OutcomeViews.{operands_of}
use Rattle.facet_json_command.proofs.arguments.Words.with_operand.Goals as goal

pub returns-in-Some : goal.returns-in-Some
returns-in-Some c = (c.in-Some.field-0.now, ap operands_of c.in-Some.is)

pub returns-in-None : goal.returns-in-None
returns-in-None c = search rules
