use Rattle.facet_json_tree.proofs.PointerTokens.{IsBefore}
use Rattle.facet_json_tree.proofs.pointer.first_token.Given as goal

abbrev pub invariant-loop-i : goal.invariant-loop-i
invariant-loop-i l = IsBefore l.text l.i
