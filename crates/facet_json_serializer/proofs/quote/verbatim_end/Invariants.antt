-- What is plain from here on is plain from the start on.
use Rattle.std.proofs.Common.{◌≡◌, ◌+◌, ◌-◌, ◌≤◌, length, drop}
use Rattle.std.specs.List.{prefix_len}
use Rattle.facet_json_serializer.specs.Inner.Window.{needs_no_escape}
use Rattle.facet_json_serializer.proofs.quote.verbatim_end.Given as goal

abbrev pub invariant-loop-at : goal.invariant-loop-at
invariant-loop-at l =
    record {
      within : l.at ≤ length l.bytes;
      same : l.from + prefix_len needs_no_escape (drop l.from l.bytes) ≡ l.at + prefix_len needs_no_escape (drop l.at l.bytes);
    }

abbrev pub decreases-loop-at : goal.decreases-loop-at
decreases-loop-at l = length l.bytes - l.at
