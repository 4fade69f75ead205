use Rattle.std.proofs.Common.{◌≤◌, ◌-◌, ℕ, List, length, drop}
use Rattle.facet_json_core.specs.Meaning.Nodes.{KeepsOn}
use Rattle.facet_json_tree.specs.Pointer.{IsPointer}
use Rattle.facet_json.proofs.PointersFollowed.{AreFollowed}
use Rattle.facet_json.proofs.pointer.follow.Given as goal

abbrev pub invariant-loop-start : goal.invariant-loop-start
invariant-loop-start l = record {
  within : l.start ≤ length l.pointer;
  followed : (names : List (List ℕ)) → IsPointer l.pointer names → AreFollowed l.fn.parser l.parser (drop l.start l.pointer) names;
  keeps : KeepsOn l.fn.parser l.parser;
}

abbrev pub decreases-loop-start : goal.decreases-loop-start
decreases-loop-start l = length l.pointer - l.start
