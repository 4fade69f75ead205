use Rattle.facet_json_tree.proofs.Pointers.{IsFoundFrom}
use Rattle.facet_json_tree.proofs.pointer.check.Given as goal

abbrev pub invariant-loop-i : goal.invariant-loop-i
invariant-loop-i l = IsFoundFrom l.text l.i
