-- The digits that are left make the value what all of them spell.
use Rattle.std.proofs.Common.{◌≡◌, ◌-◌, ◌≤◌, drop, length}
use Rattle.facet_format.specs.NumberValue.{digits_value}
use Rattle.facet_json_token.proofs.number.short_value.Given as goal

abbrev pub invariant-loop-at : goal.invariant-loop-at
invariant-loop-at l =
    record {
      within : l.at ≤ length l.digits;
      same : digits_value l.value (drop l.at l.digits) ≡ digits_value 0 l.digits;
    }

abbrev pub decreases-loop-at : goal.decreases-loop-at
decreases-loop-at l = length l.digits - l.at
