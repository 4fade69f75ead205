-- The gap from here on ends where the whole gap ends.
use Rattle.std.proofs.Common.{◌≡◌, ◌-◌, ◌≤◌, length}
use Rattle.facet_json_token.specs.Cut.{past_gap}
use Rattle.facet_json_token.specs.Views.{mode_of}
use Rattle.facet_json_token.proofs.cutting.skip_gap.Given as goal

abbrev pub invariant-loop-mode : goal.invariant-loop-mode
invariant-loop-mode l =
    record {
      within : l.at ≤ length l.buffer;
      same : past_gap l.buffer l.at (mode_of l.mode) ≡ past_gap l.buffer l.position (mode_of l.mode);
    }

abbrev pub decreases-loop-mode : goal.decreases-loop-mode
decreases-loop-mode l = length l.buffer - l.at
