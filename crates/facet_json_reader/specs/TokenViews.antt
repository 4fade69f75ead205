-- What tokens of the code stand for, where their texts and numbers have been read.
use Rattle.std.specs.Prelude.{◌≡◌, ◌+◌, ◌≤◌, ◌==◌, ℕ, Bool, true, false, List, Option, Some, None, IsSome, length, slice_range}
use Rattle.std.specs.List.{list_any}
use Rattle.facet_format.specs.declared.event.Span.{Span as RustSpan}
use Rattle.facet_json_token.specs.declared.token.Token.{Token as RustToken}
use Rattle.facet_json_token.specs.declared.token.Token.TheVariants as code
use Rattle.facet_json_reader.specs.declared.materialized.TokenKind.{TokenKind}
use Rattle.facet_json_reader.specs.declared.materialized.TokenKind.TheVariants as kinds
use Rattle.facet_json_reader.specs.declared.materialized.MaterializedToken.{MaterializedToken}
use Rattle.facet_format.specs.Bytes.{backslash}
use Rattle.facet_format.specs.Complaint.{Refusal}
use Rattle.facet_format.specs.Event.{Text, bytes_of, is_owned}
use Rattle.facet_format.specs.HeldText.{text_of}
use Rattle.facet_format.specs.Number.{Hint}
use Rattle.facet_format.specs.NumberValue.{Number}
use Rattle.facet_format.specs.NumberParts.{is_number}
use Rattle.facet_format.specs.NumberValue as numbers
use Rattle.facet_format.specs.Span.{Span}
use Rattle.facet_format.specs.Views.{hint_of}
use Rattle.facet_json_token.specs.Token.{Kind}
use Rattle.facet_json_token.specs.Token as token
use Rattle.facet_json_grammar.specs.Meaning.{meaning_of}
use Rattle.facet_json_grammar.specs.Node.{is_string}
use Rattle.facet_json_grammar.specs.Refusal.{needs_meaning, Complains}
use Rattle.facet_json_grammar.specs.Tree as tree
use Rattle.facet_json_grammar.specs.Walk.{text_by}

-- ---- what stands in the buffer

-- The content of the string that takes the span stands there, between its quotes.
pub record IsContent (buffer : List ℕ) (s : RustSpan) (start finish : ℕ) (has_escapes : Bool) : Type 0 where
  pub starts : start ≡ s.offset + 1
  pub finishes : finish + 1 ≡ s.offset + s.len
  pub ordered : start ≤ finish
  pub within : finish ≤ length buffer
  pub escapes : has_escapes ≡ list_any (λ b. b == backslash) (slice_range buffer start finish)

-- A number with this hint takes the span.
pub record IsNumberThere (buffer : List ℕ) (s : RustSpan) (start finish : ℕ) (hint : Hint) : Type 0 where
  pub starts : start ≡ s.offset
  pub finishes : finish ≡ s.offset + s.len
  pub within : finish ≤ length buffer
  pub is_a_number : is_number (slice_range buffer start finish) hint ≡ true

-- The slices that a token names are its own; it is no call for more bytes.
abbrev pub CanBeRead : List ℕ → RustSpan → RustToken → Type 0
CanBeRead buffer s (code.String start finish has_escapes) = IsContent buffer s start finish has_escapes
CanBeRead buffer s (code.Number start finish h) = IsNumberThere buffer s start finish (hint_of h)
CanBeRead buffer s (code.NeedMore consumed) = ⊥
CanBeRead buffer s _ = Unit {0}

-- ---- what it is read as

-- the value of a token of the buffer that is a number
abbrev pub number_at : List ℕ → Kind → Option Number
number_at buffer (token.number start finish h) = numbers.number (slice_range buffer start finish) h
number_at buffer _ = None

-- the number that is read
abbrev pub number_in : TokenKind → Option Number
number_in (kinds.U64 n) = Some (numbers.u64 n)
number_in (kinds.I64 n) = Some (numbers.i64 n)
number_in (kinds.U128 n) = Some (numbers.u128 n)
number_in (kinds.I128 n) = Some (numbers.i128 n)
number_in (kinds.Decimal digits) = Some (numbers.decimal (bytes_of digits))
number_in _ = None

-- whether the number that is read holds a text that is made
abbrev pub holds_made_text : TokenKind → Bool
holds_made_text (kinds.Decimal digits) = is_owned digits
holds_made_text _ = false

-- A string of this kind has this text, which is borrowed where no backslash stands in it.
pub record IsTextOf (buffer : List ℕ) (kind : Kind) (t : Text) : Type 0 where
  pub means : meaning_of buffer kind ≡ Some (tree.text (bytes_of t))
  pub held : t ≡ text_by kind (bytes_of t)

-- what a kind of token of the buffer is read as
abbrev pub IsReadAs : List ℕ → Kind → TokenKind → Type 0
IsReadAs buffer kind kinds.ObjectStart = kind ≡ token.object_start
IsReadAs buffer kind kinds.ObjectEnd = kind ≡ token.object_end
IsReadAs buffer kind kinds.ArrayStart = kind ≡ token.array_start
IsReadAs buffer kind kinds.ArrayEnd = kind ≡ token.array_end
IsReadAs buffer kind kinds.Colon = kind ≡ token.colon
IsReadAs buffer kind kinds.Comma = kind ≡ token.comma
IsReadAs buffer kind kinds.Null = kind ≡ token.null
IsReadAs buffer kind kinds.True = kind ≡ token.true_literal
IsReadAs buffer kind kinds.False = kind ≡ token.false_literal
IsReadAs buffer kind (kinds.String s) = (is_string kind ≡ true) × IsTextOf buffer kind (text_of s)
IsReadAs buffer kind (kinds.U64 n) = number_at buffer kind ≡ Some (numbers.u64 n)
IsReadAs buffer kind (kinds.I64 n) = number_at buffer kind ≡ Some (numbers.i64 n)
IsReadAs buffer kind (kinds.U128 n) = number_at buffer kind ≡ Some (numbers.u128 n)
IsReadAs buffer kind (kinds.I128 n) = number_at buffer kind ≡ Some (numbers.i128 n)
IsReadAs buffer kind (kinds.Decimal digits) =
    (number_at buffer kind ≡ Some (numbers.decimal (bytes_of digits))) × (is_owned digits ≡ false)
IsReadAs buffer kind kinds.Eof = ⊥

-- a string in which a backslash stands
abbrev pub is_escaped : Kind → Bool
is_escaped (token.string start finish has_escapes) = has_escapes
is_escaped _ = false

-- The token is a string whose text has to be made, and has one.
pub record IsUnmade (buffer : List ℕ) (kind : Kind) : Type 0 where
  pub escaped : is_escaped kind ≡ true
  pub means : IsSome (meaning_of buffer kind)

-- It is read so; or it has a text for which there was no memory.
abbrev pub IsReadOrUnmade : List ℕ → Kind → Option MaterializedToken → Type 0
IsReadOrUnmade buffer kind None = IsUnmade buffer kind
IsReadOrUnmade buffer kind (Some t) = IsReadAs buffer kind t.kind

-- a token without a meaning, and how it is refused
pub record IsMeaningless (buffer : List ℕ) (kind : Kind) (s : Span) (refusal : Refusal) : Type 0 where
  pub judged : needs_meaning kind ≡ true
  pub meaningless : meaning_of buffer kind ≡ None
  pub refused : Complains buffer (record { kind = kind; span = s }) refusal
