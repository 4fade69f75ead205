-- What a token looks like (RFC 8259, sections 2, 3, 6 and 7).
use Rattle.std.specs.Prelude.{◌≡◌, ℕ, suc, ◌+◌, Bool, true, false, ◌==◌, List, [], ◌∷◌, ◌++◌, length, take, codes}
use Rattle.facet_format.specs.Bytes.{quote, backslash, left_brace, right_brace, left_bracket, right_bracket}
use Rattle.facet_format.specs.Bytes as bytes
use Rattle.facet_format.specs.Number.{Hint, IsNumber}
use Rattle.facet_json_token.specs.Token.{Kind, object_start, object_end, array_start, array_end, colon, comma, null, true_literal, false_literal, string, number}

-- the one byte of a bracket, a colon or a comma
pub data IsStructural : ℕ → Kind → Type 0 where
  object_starts : IsStructural left_brace object_start
  object_ends : IsStructural right_brace object_end
  array_starts : IsStructural left_bracket array_start
  array_ends : IsStructural right_bracket array_end
  colon_stands : IsStructural bytes.colon colon
  comma_stands : IsStructural bytes.comma comma

-- the letters of a literal
pub data IsLiteral : List ℕ → Kind → Type 0 where
  null_stands : IsLiteral (codes "null") null
  true_stands : IsLiteral (codes "true") true_literal
  false_stands : IsLiteral (codes "false") false_literal

-- Pieces of a string's content: a backslash and any byte, or one byte that is neither backslash nor quote. The mark says whether
-- a backslash is among them.
pub data ArePieces : List ℕ → Bool → Type 0 where
  none : ArePieces [] false
  byte : (b : ℕ) (others : List ℕ) (has_escapes : Bool) → (b == quote) ≡ false → (b == backslash) ≡ false →
      ArePieces others has_escapes → ArePieces (b ∷ others) has_escapes
  escape : (b : ℕ) (others : List ℕ) (has_escapes : Bool) → ArePieces others has_escapes →
      ArePieces (backslash ∷ b ∷ others) true

-- No longer prefix of the bytes and what follows them is a number.
abbrev pub IsLongest : List ℕ → List ℕ → Type 0
IsLongest number_bytes rest = (n : ℕ) (hint : Hint) → IsNumber (number_bytes ++ take n rest) hint → take n rest ≡ []

-- At offset `at` stand these bytes, which are a token of this kind, where rest follows them.
pub data IsShape (at : ℕ) : List ℕ → List ℕ → Kind → Type 0 where
  structural : (b : ℕ) (kind : Kind) (rest : List ℕ) → IsStructural b kind → IsShape at (b ∷ []) rest kind
  literal : (word : List ℕ) (kind : Kind) (rest : List ℕ) → IsLiteral word kind → IsShape at word rest kind
  text : (content rest : List ℕ) (has_escapes : Bool) → ArePieces content has_escapes →
      IsShape at (quote ∷ content ++ quote ∷ []) rest (string (suc at) (suc at + length content) has_escapes)
  numeral : (text rest : List ℕ) (hint : Hint) → IsNumber text hint → IsLongest text rest →
      IsShape at text rest (number at (at + length text) hint)
