-- What the bytes of a token tell whoever takes its event.
use Rattle.std.specs.Prelude.{◌≡◌, ◌≤◌, ◌-◌, ℕ, false, List, Some, IsUtf8, length, slice_range}
use Rattle.facet_format.specs.Event.{EventKind, Scalar, scalar, field_key, borrowed}
use Rattle.facet_format.specs.Event as event
use Rattle.facet_format.specs.Number.{Hint}
use Rattle.facet_format.specs.NumberValue.{Number, number}
use Rattle.facet_json_token.specs.Cut.{has_backslash}
use Rattle.facet_json_token.specs.Token as token
use Rattle.facet_json_grammar.specs.Meaning.{tree_of_number}
use Rattle.facet_json_grammar.specs.Walk.{scalar_by}
use Rattle.facet_json_reader.specs.declared.takes.Piece.{Piece}
use Rattle.facet_json_reader.specs.declared.takes.Piece.TheVariants as pieces
use Rattle.facet_json_reader.specs.PlaceViews.{opening_event, closing_event}
use Rattle.facet_json_reader.specs.Values.{IsShortScalar}

-- the bytes between the first and the last
abbrev pub quoted : List ℕ → List ℕ
quoted bytes = slice_range bytes 1 (length bytes - 1)

-- Between two bytes, the quotes of a string, stands its text: UTF-8 without an escape.
pub record IsQuotedText (bytes : List ℕ) : Type 0 where
  pub long : 2 ≤ length bytes
  pub utf8 : IsUtf8 (quoted bytes)
  pub plain : has_backslash (quoted bytes) ≡ false

-- These bytes are a number, which is read as this value.
pub record IsNumberText (bytes : List ℕ) (value : Scalar) : Type 0 where
  pub hint : Hint
  pub read : Number
  pub means : number bytes hint ≡ Some read
  pub is : value ≡ scalar_by (token.number 0 (length bytes) hint) (tree_of_number read)
  pub short : IsShortScalar value

-- Of these bytes such a piece is an event of this kind.
abbrev pub IsPiece : List ℕ → Piece → EventKind → Type 0
IsPiece bytes pieces.Text kind = IsQuotedText bytes × (kind ≡ scalar (event.text (borrowed (quoted bytes))))
IsPiece bytes pieces.Key kind = IsQuotedText bytes × (kind ≡ field_key (borrowed (quoted bytes)))
IsPiece bytes pieces.Number kind = (value : Scalar) × IsNumberText bytes value × (kind ≡ scalar value)
IsPiece bytes (pieces.Bool b) kind = kind ≡ scalar (event.bool b)
IsPiece bytes pieces.Null kind = kind ≡ scalar event.null
IsPiece bytes (pieces.Start container) kind = kind ≡ opening_event container
IsPiece bytes (pieces.End container) kind = kind ≡ closing_event container
