use Rattle.std.proofs.Common.{◌≡◌, map, length}
use Rattle.std.specs.List.{flat_map}
use Rattle.std.specs.Vec.Iter.{into_iter_items}
use Rattle.facet_json_core.specs.ScriptViews.{answer_of}
use Rattle.facet_json_command.specs.Lines.{answer_lines}
use Rattle.facet_json_command.proofs.Printing.{IsPrintedUpTo}
use Rattle.facet_json_command.proofs.run.write_ahead.Given as goal

abbrev pub invariant-loop-answer : goal.invariant-loop-answer
invariant-loop-answer g l = record {
  printed : IsPrintedUpTo (g.W.Write.contents l.fn.writer) (g.W.Write.contents l.writer)
      (flat_map answer_lines (map answer_of (into_iter_items l.fn.answers))) (flat_map answer_lines (map answer_of (into_iter_items l.answers)));
  unmarked : l.session.failed ≡ l.fn.session.failed;
}

abbrev pub decreases-loop-answer : goal.decreases-loop-answer
decreases-loop-answer g l = length (into_iter_items l.answers)
