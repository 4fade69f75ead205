use Rattle.std.proofs.Common.{arith}
use Rattle.facet_json_lint.proofs.Columns.{columns-nil}
use Rattle.facet_json_lint.proofs.shown.cut_to.Goals as goal

pub returns-then-is_none : goal.returns-then-is_none
returns-then-is_none c = omega (arith, columns-nil)
