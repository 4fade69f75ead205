-- No line feed so far.
use Rattle.std.proofs.Common.{ℕ, ◌≡◌, ◌≤◌, ◌<◌, ◌-◌, false, length, get_or}
use Rattle.facet_format.specs.Line.{is_feed}
use Rattle.facet_format.proofs.line.line_len.Given as goal

abbrev pub invariant-loop-end : goal.invariant-loop-end
invariant-loop-end l =
    record {
      within : l.end ≤ length l.text;
      none : (k : ℕ) → k < l.end → is_feed (get_or l.text k 0) ≡ false;
    }

abbrev pub decreases-loop-end : goal.decreases-loop-end
decreases-loop-end l = length l.text - l.end
