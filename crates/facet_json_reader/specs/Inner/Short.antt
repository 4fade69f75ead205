-- Numbers that allocate nothing: what is told of one is its value where it is whole, and that it is a decimal else.
use Rattle.std.specs.Prelude.{◌≡◌, ◌+◌, ◌≤◌, ℕ, suc, true, List, length, Option, Some, None, drop, slice_range}
use Rattle.facet_format.specs.Number.{float}
use Rattle.facet_format.specs.NumberParts.{digits_len, fraction_len, exponent_len, is_number}
use Rattle.facet_format.specs.Span.{span_at}
use Rattle.facet_json_token.specs.Cut.{cut_here, token_at}
use Rattle.facet_json_token.specs.Gap.{Mode}
use Rattle.facet_json_token.specs.Token.{number}
use Rattle.facet_json_grammar.specs.Language.{Language}
use Rattle.facet_json_grammar.specs.StrictTokens.{Allows}
use Rattle.facet_json_reader.specs.declared.number.Whole.{Whole}
use Rattle.facet_json_reader.specs.Inner.Whole.{whole_scalar}
use Rattle.facet_json_reader.specs.Values.{IsScalarThere}

-- At this offset stands a decimal's token of this length.
pub record IsDecimalThere (buffer : List ℕ) (at len : ℕ) : Type 0 where
  pub cut : (mode : Mode) → cut_here mode at (drop at buffer) ≡ token_at (number at (at + len) float) at len
  pub decimal : is_number (slice_range buffer at (at + len)) float ≡ true
  pub within : at + len ≤ length buffer

-- The bytes begin with digits, a dot and digits, so many bytes in all, and no exponent is after them.
pub record IsPointed (bytes : List ℕ) (len : ℕ) : Type 0 where
  pub digits : ℕ
  pub more : ℕ
  pub whole : digits ≡ digits_len bytes
  pub fraction : suc more ≡ fraction_len (drop digits bytes)
  pub no_exponent : exponent_len (drop (digits + suc more) bytes) ≡ 0
  pub all : len ≡ digits + suc more

-- At this offset stands a number of this length, of which that is told.
abbrev pub IsShortNumber : List ℕ → ℕ → ℕ → Option Whole → Type 0
IsShortNumber buffer at len (Some told) = IsScalarThere buffer at len (whole_scalar told)
IsShortNumber buffer at len None = IsDecimalThere buffer at len

-- The same, and the language allows its token.
abbrev pub IsShortIn : Language → List ℕ → ℕ → ℕ → Option Whole → Type 0
IsShortIn language buffer at len (Some told) = (there : IsScalarThere buffer at len (whole_scalar told)) ×
    Allows language buffer (record { kind = there.kind; span = span_at at len })
IsShortIn language buffer at len None = IsDecimalThere buffer at len ×
    Allows language buffer (record { kind = number at (at + len) float; span = span_at at len })
