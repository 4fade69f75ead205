use Rattle.facet_json.specs.Now.{ahead}
use Rattle.facet_json_rows.proofs.counted.has_odd_events.Given as goal

abbrev pub decreases-loop-event : goal.decreases-loop-event
decreases-loop-event l = ahead l.parser
