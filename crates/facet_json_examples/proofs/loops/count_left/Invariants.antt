use Rattle.std.proofs.Common.{◌+◌, ◌≤◌}
use Rattle.facet_json.specs.Now.{ahead}
use Rattle.facet_json_examples.proofs.loops.count_left.Given as goal

abbrev pub invariant-loop-event : goal.invariant-loop-event
invariant-loop-event l = l.count + ahead l.parser ≤ ahead l.fn.parser

abbrev pub decreases-loop-event : goal.decreases-loop-event
decreases-loop-event l = ahead l.parser
