use Rattle.std.proofs.Common.{◌≤◌, length}
use Rattle.facet_json.specs.Now.{ahead}
use Rattle.facet_json_programs.proofs.rules.check_events.Given as goal

abbrev pub invariant-loop-event : goal.invariant-loop-event
invariant-loop-event l = length l.fn.counts.items ≤ l.limits.depth → length l.counts.items ≤ l.limits.depth

abbrev pub decreases-loop-event : goal.decreases-loop-event
decreases-loop-event l = ahead l.parser
