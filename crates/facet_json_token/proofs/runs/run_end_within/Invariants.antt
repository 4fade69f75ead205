use Rattle.std.proofs.Common.{◌-◌, length}
use Rattle.facet_json_token.proofs.RunEnds.{SameRun}
use Rattle.facet_json_token.proofs.runs.run_end_within.Given as goal

abbrev pub invariant-loop-stop : goal.invariant-loop-stop
invariant-loop-stop g l = SameRun g.R.Run.is_end l.buffer l.at l.stop (length l.buffer)

abbrev pub decreases-loop-stop : goal.decreases-loop-stop
decreases-loop-stop g l = length l.buffer - l.stop
