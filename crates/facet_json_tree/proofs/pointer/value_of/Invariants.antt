-- The digits that are left make the value what all of them spell, and the bytes are digits so far.
use Rattle.std.proofs.Common.{◌≡◌, ◌<◌, ◌^◌, drop}
use Rattle.std.specs.List.{list_all}
use Rattle.facet_format.specs.Bytes.{is_digit}
use Rattle.facet_format.specs.NumberValue.{digits_value}
use Rattle.facet_json_tree.proofs.pointer.value_of.Given as goal

abbrev pub invariant-loop-digit : goal.invariant-loop-digit
invariant-loop-digit l =
    record {
      all : list_all is_digit l.digits ≡ list_all is_digit (drop l.digit-index l.digits);
      same : digits_value l.value (drop l.digit-index l.digits) ≡ digits_value 0 l.digits;
      fits : l.value < 2 ^ 64;
    }
