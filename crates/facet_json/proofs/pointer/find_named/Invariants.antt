use Rattle.facet_json_grammar.specs.Now.{ahead}
use Rattle.facet_json_tree.specs.Inner.PointerParts.{unescaped}
use Rattle.facet_json_core.specs.Finding.{IsSearching}
use Rattle.facet_json.proofs.pointer.find_named.Given as goal

abbrev pub invariant-loop-key : goal.invariant-loop-key
invariant-loop-key l = IsSearching (unescaped l.token) l.fn.parser l.parser

abbrev pub decreases-loop-key : goal.decreases-loop-key
decreases-loop-key l = ahead l.parser
