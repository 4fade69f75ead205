-- The bytes up to here are digits, and those that are left make the value what all of them spell.
use Rattle.std.proofs.Common.{◌≡◌, ◌<◌, ◌^◌, drop, take}
use Rattle.facet_format.specs.Number.{AreDigits}
use Rattle.facet_format.specs.NumberValue.{digits_value}
use Rattle.facet_json_token.proofs.number.short_number.Given as goal

abbrev pub invariant-loop-byte : goal.invariant-loop-byte
invariant-loop-byte l =
    record {
      digits : AreDigits (take l.byte-index l.text);
      same : digits_value l.value (drop l.byte-index l.text) ≡ digits_value 0 l.text;
      fits : l.value < 2 ^ 64;
    }
