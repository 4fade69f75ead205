use Rattle.std.proofs.Common.{◌-◌, length}
use Rattle.facet_json_token.proofs.RunEnds.{SameRun}
use Rattle.facet_json_token.proofs.runs.run_end.Given as goal

abbrev pub invariant-loop-at : goal.invariant-loop-at
invariant-loop-at g l = SameRun g.R.Run.is_end l.buffer l.from l.at (length l.buffer)

abbrev pub decreases-loop-at : goal.decreases-loop-at
decreases-loop-at g l = length l.buffer - l.at
