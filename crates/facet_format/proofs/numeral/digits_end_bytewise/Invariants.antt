-- The digits from here on end where the first ones end.
use Rattle.std.proofs.Common.{◌≡◌, ◌+◌, ◌-◌, ◌≤◌, length, drop}
use Rattle.facet_format.specs.NumberParts.{digits_len}
use Rattle.facet_format.proofs.numeral.digits_end_bytewise.Given as goal

abbrev pub invariant-loop-end : goal.invariant-loop-end
invariant-loop-end l =
    record {
      within : l.end ≤ length l.buffer;
      same : l.end + digits_len (drop l.end l.buffer) ≡ l.at + digits_len (drop l.at l.buffer);
    }

abbrev pub decreases-loop-end : goal.decreases-loop-end
decreases-loop-end l = length l.buffer - l.end
