use Rattle.std.specs.Prelude.{length}
use Rattle.facet_json_programs.proofs.validate.limits_of.Given as goal

abbrev pub decreases-loop-left : goal.decreases-loop-left
decreases-loop-left l = length l.left
