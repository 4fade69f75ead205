use Rattle.std.proofs.Common.{◌≤◌, ◌-◌, ℕ, List, length, drop}
use Rattle.facet_json_tree.specs.Pointer.{IsPointer}
use Rattle.facet_json_document.proofs.PointersSeen.{Along}
use Rattle.facet_json_document.proofs.document.value.Value.named.Given as goal

abbrev pub invariant-loop-start : goal.invariant-loop-start
invariant-loop-start l = record {
  within : l.start ≤ length l.fn.pointer;
  reached : (names : List (List ℕ)) → IsPointer l.fn.pointer names → Along (drop l.start l.fn.pointer) l.found names l.fn.self;
}

abbrev pub decreases-loop-start : goal.decreases-loop-start
decreases-loop-start l = length l.fn.pointer - l.start
