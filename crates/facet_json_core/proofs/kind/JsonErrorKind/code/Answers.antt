use Rattle.std.proofs.Common.{rules}
use Rattle.facet_json_core.proofs.kind.JsonErrorKind.code.Goals as goal

pub returns-in-TypeMismatch : goal.returns-in-TypeMismatch
returns-in-TypeMismatch c = search rules
