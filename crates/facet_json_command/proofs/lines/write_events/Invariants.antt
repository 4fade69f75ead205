use Rattle.std.proofs.Common.{◌≡◌, map}
use Rattle.std.specs.List.{flat_map}
use Rattle.std.specs.VecDeque.{deque_len}
use Rattle.facet_format.specs.Views.{event_of}
use Rattle.facet_json_command.specs.Lines.{event_line}
use Rattle.facet_json_command.proofs.Printing.{IsPrintedUpTo}
use Rattle.facet_json_command.proofs.lines.write_events.Given as goal

abbrev pub invariant-loop-event : goal.invariant-loop-event
invariant-loop-event g l = record {
  printed : IsPrintedUpTo (g.W.Write.contents l.fn.writer) (g.W.Write.contents l.writer)
      (flat_map event_line (map event_of l.fn.events.items)) (flat_map event_line (map event_of l.events.items));
  unmarked : l.session.failed ≡ l.fn.session.failed;
}

abbrev pub decreases-loop-event : goal.decreases-loop-event
decreases-loop-event g l = deque_len l.events
