-- Where a buffer that may grow does not say yet what stands at a position: what is left is a beginning of something longer.
use Rattle.std.specs.Prelude.{◌≢◌, ℕ, ◌+◌, Bool, List, [], ◌∷◌, ◌++◌, drop}
use Rattle.facet_format.specs.Bytes.{quote, backslash, slash, star, minus}
use Rattle.facet_json_token.specs.Gap.{Mode, jsonc, growing, OpensBlock, OpensLine}
use Rattle.facet_json_token.specs.GapLen.{gap_len}
use Rattle.facet_format.specs.Number.{Hint, IsNumber}
use Rattle.facet_json_token.specs.Token.{Kind}
use Rattle.facet_json_token.specs.Shape.{ArePieces, IsLiteral}

-- ---- what open is

-- The bytes are a nonempty proper prefix of a string, of a literal or of a comment, or are a number or a minus, which may go on.
pub data IsBeginning : Mode → List ℕ → Type 0 where
  text : (mode : Mode) (content : List ℕ) (has_escapes : Bool) → ArePieces content has_escapes →
      IsBeginning mode (quote ∷ content)
  escape : (mode : Mode) (content : List ℕ) (has_escapes : Bool) → ArePieces content has_escapes →
      IsBeginning mode (quote ∷ content ++ backslash ∷ [])
  literal : (mode : Mode) (prefix others : List ℕ) (kind : Kind) → IsLiteral (prefix ++ others) kind → prefix ≢ [] →
      others ≢ [] → IsBeginning mode prefix
  slash_alone : IsBeginning jsonc (slash ∷ [])
  block : (body : List ℕ) → OpensBlock body → IsBeginning jsonc (slash ∷ star ∷ body)
  line : (body : List ℕ) → OpensLine body → IsBeginning jsonc (slash ∷ slash ∷ body)
  number : (mode : Mode) (text : List ℕ) (hint : Hint) → IsNumber text hint → IsBeginning mode text
  minus_alone : (mode : Mode) → IsBeginning mode (minus ∷ [])

-- The buffer is open at a position: more bytes may change what is cut there.
abbrev pub IsOpen : List ℕ → ℕ → Mode → Type 0
IsOpen buffer position mode = IsBeginning mode (drop (position + gap_len mode growing (drop position buffer)) buffer)
