-- What stands after the place goes on to the end of the last line.
use Rattle.std.proofs.Common.{◌≡◌, ◌+◌, ◌≤◌, not, length, take}
use Rattle.std.specs.List.{suffix_len}
use Rattle.facet_format.specs.Line.{is_feed}
use Rattle.facet_format.proofs.line.line_start.Given as goal

abbrev pub invariant-loop-start : goal.invariant-loop-start
invariant-loop-start l =
    record {
      within : l.start ≤ length l.text;
      passed : l.start + suffix_len (λ b. not (is_feed b)) l.text
          ≡ length l.text + suffix_len (λ b. not (is_feed b)) (take l.start l.text);
    }

abbrev pub decreases-loop-start : goal.decreases-loop-start
decreases-loop-start l = l.start
