use Rattle.std.proofs.Common.{◌-◌}
use Rattle.facet_json_token.proofs.RunEnds.{SameRun}
use Rattle.facet_json_token.proofs.runs.run_end_bytewise.Given as goal

abbrev pub invariant-loop-stop : goal.invariant-loop-stop
invariant-loop-stop g l = SameRun g.R.Run.is_end l.buffer l.at l.stop l.end

abbrev pub decreases-loop-stop : goal.decreases-loop-stop
decreases-loop-stop g l = l.end - l.stop
