use Rattle.std.proofs.Common.{◌≤◌, ◌-◌, ℕ, List, length, drop}
use Rattle.facet_json_tree.specs.Pointer.{IsPointer}
use Rattle.facet_json_tree.specs.Views.{tree_view}
use Rattle.facet_json_tree.proofs.PointerSteps.{Reached}
use Rattle.facet_json_tree.proofs.pointer_mut.named_mut.Given as goal

abbrev pub decreases-loop-start : goal.decreases-loop-start
decreases-loop-start l = length l.pointer - l.start

abbrev pub invariant-loop-start : goal.invariant-loop-start
invariant-loop-start l =
    record {
      within : l.start ≤ length l.pointer;
      reached : (names : List (List ℕ)) → IsPointer l.pointer names → Reached (drop l.start l.pointer) (tree_view l.found) names (tree_view l.fn.tree);
    }
