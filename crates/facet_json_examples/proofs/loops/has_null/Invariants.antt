use Rattle.facet_json.specs.Now.{ahead}
use Rattle.facet_json_examples.proofs.loops.has_null.Given as goal

abbrev pub decreases-loop-event : goal.decreases-loop-event
decreases-loop-event l = ahead l.parser
