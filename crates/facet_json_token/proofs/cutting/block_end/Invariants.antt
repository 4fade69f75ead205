-- The first `*/` from here on is the first from the start on.
use Rattle.std.proofs.Common.{◌≡◌, ◌+◌, ◌-◌, ◌≤◌, length, drop}
use Rattle.std.specs.Option.{option_map}
use Rattle.facet_json_token.specs.GapLen.{through_block_end}
use Rattle.facet_json_token.proofs.cutting.block_end.Given as goal

abbrev pub invariant-loop-at : goal.invariant-loop-at
invariant-loop-at l =
    record {
      ahead : l.from ≤ l.at;
      within : l.at ≤ length l.buffer;
      same : option_map (λ n. l.at + n) (through_block_end (drop l.at l.buffer)) ≡ option_map (λ n. l.from + n)
          (through_block_end (drop l.from l.buffer));
    }

abbrev pub decreases-loop-at : goal.decreases-loop-at
decreases-loop-at l = length l.buffer - l.at
