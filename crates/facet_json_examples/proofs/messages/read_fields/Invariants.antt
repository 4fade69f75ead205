use Rattle.facet_json.specs.Now.{ahead}
use Rattle.facet_json_examples.proofs.messages.read_fields.Given as goal

abbrev pub decreases-loop-field : goal.decreases-loop-field
decreases-loop-field l = ahead l.parser
