use Rattle.std.proofs.Common.{rules}
use Rattle.facet_json_core.proofs.value.pass.Goals as goal

pub returns-in-FieldKey : goal.returns-in-FieldKey
returns-in-FieldKey c = search rules

pub returns-in-Scalar : goal.returns-in-Scalar
returns-in-Scalar c = search rules
