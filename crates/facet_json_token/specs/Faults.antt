-- What is wrong where no token stands: a relation by cases (RFC 8259, section 2).
use Rattle.std.specs.Prelude.{◌≡◌, ◌≢◌, ℕ, ◌+◌, Bool, true, false, List, [], ◌∷◌, ◌++◌, length, take}
use Rattle.facet_format.specs.Bytes.{is_space, quote, backslash, slash, star, minus}
use Rattle.facet_format.specs.Number.{Hint, IsNumber}
use Rattle.facet_format.specs.NumberParts.{starts_number}
use Rattle.facet_format.specs.Span.{Span, span_at}
use Rattle.facet_json_token.specs.Gap.{Mode, plain, jsonc, OpensBlock}
use Rattle.facet_json_token.specs.Token.{Kind, FaultKind, unexpected_char, unexpected_eof, in_string, in_number, in_literal, in_block_comment}
use Rattle.facet_json_token.specs.Shape.{IsStructural, IsLiteral, ArePieces}

-- The byte begins a token: it is one, it is a literal's first letter, it is a quote, or it is a minus or a digit.
pub data BeginsToken : ℕ → Type 0 where
  mark : (b : ℕ) (kind : Kind) → IsStructural b kind → BeginsToken b
  letter : (b : ℕ) (letters : List ℕ) (kind : Kind) → IsLiteral (b ∷ letters) kind → BeginsToken b
  string : BeginsToken quote
  number : (b : ℕ) → starts_number b ≡ true → BeginsToken b

-- No prefix of the bytes is a number.
abbrev pub BeginsNoNumber : List ℕ → Type 0
BeginsNoNumber bytes = (n : ℕ) (hint : Hint) → IsNumber (take n bytes) hint → ⊥

-- At offset `at` these bytes are left, no gap is before them, and they begin with no token: this is wrong, in these bytes.
pub data IsFault (at : ℕ) : Mode → List ℕ → FaultKind → Span → Type 0 where
  -- a byte that begins neither a token nor a comment
  other : (mode : Mode) (b : ℕ) (rest : List ℕ) → (BeginsToken b → ⊥) → b ≢ slash → is_space b ≡ false →
      IsFault at mode (b ∷ rest) (unexpected_char b) (span_at at 1)
  -- a slash, where there are no comments
  slash_stands : (rest : List ℕ) → IsFault at plain (slash ∷ rest) (unexpected_char slash) (span_at at 1)
  -- a slash that begins no comment
  slash_before : (b : ℕ) (rest : List ℕ) → b ≢ star → b ≢ slash →
      IsFault at jsonc (slash ∷ b ∷ rest) (unexpected_char slash) (span_at at 1)
  slash_last : IsFault at jsonc (slash ∷ []) (unexpected_char slash) (span_at at 1)
  -- a block comment that the end cuts
  block : (body : List ℕ) → OpensBlock body →
      IsFault at jsonc (slash ∷ star ∷ body) (unexpected_eof in_block_comment) (span_at at (length (slash ∷ star ∷ body)))
  -- a string that the end cuts, perhaps after a backslash
  text : (mode : Mode) (content : List ℕ) (has_escapes : Bool) → ArePieces content has_escapes →
      IsFault at mode (quote ∷ content) (unexpected_eof in_string) (span_at at (length (quote ∷ content)))
  escape : (mode : Mode) (content : List ℕ) (has_escapes : Bool) → ArePieces content has_escapes →
      IsFault at mode (quote ∷ content ++ backslash ∷ []) (unexpected_eof in_string)
      (span_at at (length (quote ∷ content ++ backslash ∷ [])))
  -- a literal that differs at a byte after its first
  literal : (mode : Mode) (same others rest : List ℕ) (letter b : ℕ) (kind : Kind) →
      IsLiteral (same ++ letter ∷ others) kind → same ≢ [] → b ≢ letter →
      IsFault at mode (same ++ b ∷ rest) (unexpected_char b) (span_at (at + length same) 1)
  -- a literal that the end cuts
  part : (mode : Mode) (same others : List ℕ) (kind : Kind) → IsLiteral (same ++ others) kind → same ≢ [] →
      others ≢ [] → IsFault at mode same (unexpected_eof in_literal) (span_at at (length same))
  -- a minus that begins no number: the byte after it is named, in the place of the minus
  minus_before : (mode : Mode) (b : ℕ) (rest : List ℕ) → BeginsNoNumber (minus ∷ b ∷ rest) →
      IsFault at mode (minus ∷ b ∷ rest) (unexpected_char b) (span_at at 1)
  -- a minus before the end
  minus_last : (mode : Mode) → IsFault at mode (minus ∷ []) (unexpected_eof in_number) (span_at at 1)
