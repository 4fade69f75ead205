-- Values that stand at an offset, as their tokens mean them.
use Rattle.std.specs.Prelude.{◌≡◌, ◌<◌, ◌+◌, ◌-◌, ◌==◌, ◌&&◌, ℕ, ℤ, true, false, not, nat_le, length, List, Some, drop, slice_get, slice_range}
use Rattle.std.specs.List.{list_all}
use Rattle.facet_format.specs.Bytes.{quote, backslash}
use Rattle.facet_format.specs.Event.{Scalar, Text, u64, i64, decimal}
use Rattle.facet_format.specs.Span.{span_at}
use Rattle.facet_json_token.specs.Cut.{has_backslash, cut_here, token_at}
use Rattle.facet_json_token.specs.Gap.{Mode}
use Rattle.facet_json_token.specs.Token.{Kind, string}
use Rattle.facet_json_token.specs.Decoded.{decoded}
use Rattle.facet_json_grammar.specs.Language.{Language}
use Rattle.facet_json_grammar.specs.Meaning.{meaning_of}
use Rattle.facet_json_grammar.specs.Node.{is_scalar}
use Rattle.facet_json_grammar.specs.StrictTokens.{Allows}
use Rattle.facet_json_grammar.specs.Tree.{Tree}
use Rattle.facet_json_grammar.specs.Walk.{scalar_of}

-- From this offset up to that one stands a string without an escape, whose text this is.
pub record IsPlainText (buffer : List ℕ) (at finish : ℕ) (text : List ℕ) : Type 0 where
  pub cut : (mode : Mode) → cut_here mode at (drop at buffer) ≡ token_at (string (at + 1) finish false) at ((finish + 1) - at)
  pub means : decoded (slice_range buffer (at + 1) finish) ≡ Some text

-- Each byte may stand in a text unescaped: it is no backslash, and no less than this one.
abbrev pub AreUnescaped : ℕ → List ℕ → Type 0
AreUnescaped least bytes = list_all (λ b. not (b == backslash) && nat_le least b) bytes ≡ true

-- The string whose quote stands at this offset is closed by the quote at that one: no escape stands between them, and no byte below this one.
pub record IsClosedAt (least : ℕ) (buffer : List ℕ) (at finish : ℕ) : Type 0 where
  pub cut : (mode : Mode) → cut_here mode at (drop at buffer) ≡ token_at (string (at + 1) finish false) at ((finish + 1) - at)
  pub plain : has_backslash (slice_range buffer (at + 1) finish) ≡ false
  pub unescaped : AreUnescaped least (slice_range buffer (at + 1) finish)
  pub closes : slice_get buffer finish ≡ Some quote
  pub ordered : at < finish
  pub within : finish < length buffer

-- The string whose quote stands at this offset is closed by the quote at that one, and an escape stands between them.
pub record IsEscapedAt (buffer : List ℕ) (at finish : ℕ) : Type 0 where
  pub cut : (mode : Mode) → cut_here mode at (drop at buffer) ≡ token_at (string (at + 1) finish true) at ((finish + 1) - at)
  pub ordered : at < finish
  pub within : finish < length buffer

-- At this offset stands a scalar's token of this length, which is read as this value.
pub record IsScalarThere (buffer : List ℕ) (at len : ℕ) (value : Scalar) : Type 0 where
  pub kind : Kind
  pub meant : Tree
  pub cut : (mode : Mode) → cut_here mode at (drop at buffer) ≡ token_at kind at len
  pub scalar : is_scalar kind ≡ true
  pub means : meaning_of buffer kind ≡ Some meant
  pub read : value ≡ scalar_of kind (Some meant)

-- a number's value that is no text
pub data IsShortScalar : Scalar → Type 0 where
  short_unsigned : (n : ℕ) → IsShortScalar (u64 n)
  short_signed : (n : ℤ) → IsShortScalar (i64 n)
  short_decimal : (t : Text) → IsShortScalar (decimal t)

-- At this offset stands a scalar of so many bytes that the language allows.
pub record IsAllowedThere (language : Language) (buffer : List ℕ) (at len : ℕ) : Type 0 where
  pub value : Scalar
  pub there : IsScalarThere buffer at len value
  pub allowed : Allows language buffer (record { kind = there.kind; span = span_at at len })

-- This one.
abbrev pub IsValueThere : Language → List ℕ → ℕ → ℕ → Scalar → Type 0
IsValueThere language buffer at len value = (is : IsAllowedThere language buffer at len) × (is.value ≡ value)

-- At this offset stands such a number, whose value is no text.
pub record IsNumberThere (language : Language) (buffer : List ℕ) (at len : ℕ) : Type 0 where
  pub scalar : IsAllowedThere language buffer at len
  pub short : IsShortScalar scalar.value
