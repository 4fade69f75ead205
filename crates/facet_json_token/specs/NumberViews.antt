-- What the numbers of the code stand for in the definitions.
use Rattle.std.specs.Prelude.{ℕ, ◌-◌, Bool, false}
use Rattle.facet_json_token.specs.declared.fault.FaultKind.TheVariants as faults
use Rattle.facet_json_token.specs.declared.fault.Fault.{Fault}
use Rattle.facet_json_token.specs.declared.token.ScanErrorKind.TheVariants as scan
use Rattle.facet_json_token.specs.declared.token.ScanError.{ScanError}
use Rattle.facet_json_token.specs.declared.number.ParsedNumber.{ParsedNumber}
use Rattle.facet_json_token.specs.declared.number.ParsedNumber.TheVariants as parsed
use Rattle.facet_format.specs.Event.{bytes_of, is_owned}
use Rattle.facet_format.specs.NumberValue.{Number, u64, i64, u128, i128, decimal}

abbrev pub number_of : ParsedNumber → Number
number_of (parsed.U64 n) = u64 n
number_of (parsed.I64 n) = i64 n
number_of (parsed.U128 n) = u128 n
number_of (parsed.I128 n) = i128 n
number_of (parsed.Decimal text) = decimal (bytes_of text)

-- the number holds a text that is made
abbrev pub is_made_number : ParsedNumber → Bool
is_made_number (parsed.U64 n) = false
is_made_number (parsed.I64 n) = false
is_made_number (parsed.U128 n) = false
is_made_number (parsed.I128 n) = false
is_made_number (parsed.Decimal text) = is_owned text

-- how text that isn't a number is refused: by a question mark over all of it
abbrev pub number_refusal : ℕ → ℕ → ScanError
number_refusal start end = record {
  kind = scan.UnexpectedChar 0x3f;
  span = record { offset = start; len = end - start };
}

-- its fault
abbrev pub number_fault : ℕ → ℕ → Fault
number_fault start end = record {
  kind = faults.UnexpectedChar 0x3f;
  span = record { offset = start; len = end - start };
}
