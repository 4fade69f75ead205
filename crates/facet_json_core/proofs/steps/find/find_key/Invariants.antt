use Rattle.facet_json_grammar.specs.Now.{ahead}
use Rattle.facet_json_core.specs.Finding.{IsSearching}
use Rattle.facet_json_core.proofs.steps.find.find_key.Given as goal

abbrev pub invariant-loop-key : goal.invariant-loop-key
invariant-loop-key l = IsSearching l.name l.fn.parser l.parser

abbrev pub decreases-loop-key : goal.decreases-loop-key
decreases-loop-key l = ahead l.parser
