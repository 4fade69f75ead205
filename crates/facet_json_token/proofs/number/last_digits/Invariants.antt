-- The digits that are left make the value what all of them spell.
use Rattle.std.proofs.Common.{◌≡◌, drop}
use Rattle.facet_format.specs.NumberValue.{digits_value}
use Rattle.facet_json_token.proofs.number.last_digits.Given as goal

abbrev pub invariant-loop-i : goal.invariant-loop-i
invariant-loop-i l = digits_value l.value (drop l.i l.digits) ≡ digits_value l.before (drop l.at l.digits)
