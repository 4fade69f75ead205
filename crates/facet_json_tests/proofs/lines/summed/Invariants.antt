use Rattle.std.proofs.Common.{◌-◌, ◌^◌}
use Rattle.facet_json_tests.proofs.lines.summed.Given as goal

abbrev pub decreases-loop-lines : goal.decreases-loop-lines
decreases-loop-lines l = 2 ^ 64 - l.lines.number
