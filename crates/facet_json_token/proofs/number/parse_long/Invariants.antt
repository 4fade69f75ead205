-- The digits that are left make the value what all of them spell.
use Rattle.std.proofs.Common.{◌≡◌, ◌<◌, ◌^◌, drop}
use Rattle.facet_format.specs.NumberValue.{digits_value}
use Rattle.facet_json_token.proofs.number.parse_long.Given as goal

abbrev pub invariant-loop-digit : goal.invariant-loop-digit
invariant-loop-digit l =
    record {
      same : digits_value l.value (drop l.digit-index l.digits) ≡ digits_value 0 l.digits;
      fits : l.value < 2 ^ 64;
    }
