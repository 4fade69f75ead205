-- The run from here on ends where the run from the start on does.
use Rattle.std.proofs.Common.{◌-◌, not, length}
use Rattle.facet_json_reader.proofs.SameEnd.{SameEnd}
use Rattle.facet_json_reader.proofs.text.run_end_wide.Given as goal

abbrev pub invariant-loop-at : goal.invariant-loop-at
invariant-loop-at g l = SameEnd (λ b. not (g.E.Ends.ends l.least b)) l.buffer l.from l.at

abbrev pub decreases-loop-at : goal.decreases-loop-at
decreases-loop-at g l = length l.buffer - l.at
