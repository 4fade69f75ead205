-- Which number bytes are (RFC 8259, section 6), and whether a document has it as a number.
use Rattle.std.specs.Prelude.{ℕ, Bool, true, false, List, Option, Some}
use Rattle.facet_format.specs.NumberParts.{parts, parts_hint}
use Rattle.facet_format.specs.NumberValue.{Number}
use Rattle.facet_format.specs.NumberValue as numbers

abbrev pub own_number : List ℕ → Option Number
own_number bytes = numbers.number bytes (parts_hint (parts bytes))

-- one of 64 bits, or with a fraction or an exponent; a whole number past 64 bits is the text of its digits
abbrev pub is_small : Option Number → Bool
is_small (Some (numbers.u64 n)) = true
is_small (Some (numbers.i64 n)) = true
is_small (Some (numbers.decimal digits)) = true
is_small _ = false
