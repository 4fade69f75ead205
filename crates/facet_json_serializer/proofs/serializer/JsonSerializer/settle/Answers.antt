use Rattle.std.proofs.Common.{rules}
use Rattle.facet_json_serializer.proofs.serializer.JsonSerializer.settle.Goals as goal

pub returns : goal.returns
returns c = search rules

pub returns-2-clause-answer : goal.returns-2-clause-answer
returns-2-clause-answer c = search rules

pub returns-2-clause-now : goal.returns-2-clause-now
returns-2-clause-now c = search rules
