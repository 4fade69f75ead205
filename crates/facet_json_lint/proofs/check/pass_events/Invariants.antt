use Rattle.facet_json.specs.Now.{ahead}
use Rattle.facet_json_lint.proofs.check.pass_events.Given as goal

abbrev pub decreases-loop-event : goal.decreases-loop-event
decreases-loop-event l = ahead l.parser
