use Rattle.facet_json.specs.Now.{ahead}
use Rattle.facet_json_lint.proofs.repeats.repeats.Given as goal

abbrev pub decreases-loop-search : goal.decreases-loop-search
decreases-loop-search l = ahead l.parser
