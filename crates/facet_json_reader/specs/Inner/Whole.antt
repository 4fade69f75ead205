-- Digits that are all of a number.
use Rattle.std.specs.Prelude.{◌≡◌, ℕ, ◌+◌, ◌<◌, ◌==◌, List, Some, cond, drop, slice_get}
use Rattle.facet_format.specs.Bytes.{minus}
use Rattle.facet_format.specs.NumberParts.{digits_len, fraction_len, exponent_len}
use Rattle.facet_format.specs.Event.{Scalar, u64, i64}
use Rattle.facet_json_token.specs.Cut.{start_of, opens_number}
use Rattle.facet_json_reader.specs.declared.number.Whole.{Whole}
use Rattle.facet_json_reader.specs.declared.number.Whole.TheVariants as whole

-- The bytes begin with so many digits, some and fewer than sixteen, and after them is neither a fraction nor an exponent.
pub record IsWholeNumber (bytes : List ℕ) (n : ℕ) : Type 0 where
  pub digits : n ≡ digits_len bytes
  pub no_fraction : fraction_len (drop n bytes) ≡ 0
  pub no_exponent : exponent_len (drop n bytes) ≡ 0
  pub some : 0 < n
  pub few : n < 16

-- where the digits begin of a number that this byte begins: after a minus
abbrev pub digits_from : ℕ → ℕ → ℕ
digits_from at first = cond (first == minus) (at + 1) at

-- a number may begin at this offset
pub record OpensNumber (buffer : List ℕ) (at : ℕ) : Type 0 where
  pub first : ℕ
  pub here : slice_get buffer at ≡ Some first
  pub begins : start_of first ≡ opens_number

-- A short whole number as the scalar that its event holds.
abbrev pub whole_scalar : Whole → Scalar
whole_scalar (whole.Unsigned n) = u64 n
whole_scalar (whole.Signed z) = i64 z
