use Rattle.facet_json_grammar.specs.Now.{ahead}
use Rattle.facet_json_core.specs.Meaning.Nodes.{KeepsOn}
use Rattle.facet_json_tree.specs.Pointer.{index}
use Rattle.facet_json.proofs.ItemsPassed.{AreLeft}
use Rattle.facet_json.proofs.pointer.find_item.Given as goal

abbrev pub invariant-loop-left : goal.invariant-loop-left
invariant-loop-left l = record {
  so_far : AreLeft (index l.token) l.fn.parser l.parser l.left;
  keeps : KeepsOn l.fn.parser l.parser;
}

abbrev pub decreases-loop-left : goal.decreases-loop-left
decreases-loop-left l = ahead l.parser
