-- Bytes that are cut as one token, wherever they stand and whatever follows that cannot go on with a number.
use Rattle.std.specs.Prelude.{◌≡◌, ℕ, ◌+◌, Bool, true, not, ◌==◌, ◌||◌, List, [], ◌∷◌, ◌++◌, length, Some, None}
use Rattle.facet_format.specs.Bytes.{is_digit, dot, is_exponent_mark, is_sign}
use Rattle.facet_format.specs.Span.{stop}
use Rattle.facet_json_token.specs.Cut.{cut, token}
use Rattle.facet_json_token.specs.Gap.{plain}
use Rattle.facet_json_token.specs.Token.{Token}
use Rattle.facet_json_token.specs.Strict.{strict_fault}
use Rattle.facet_json_grammar.specs.Language.{Rules, lenient_rules, strict_rules}
use Rattle.facet_json_grammar.specs.Meaning.{meaning}
use Rattle.facet_json_grammar.specs.Node.{is_scalar, is_string}
use Rattle.facet_json_grammar.specs.Tree.{Tree}
use Rattle.facet_json_grammar.specs.Tree as trees

-- a byte of numbers
abbrev pub in_numbers : ℕ → Bool
in_numbers b = is_digit b || (b == dot) || is_exponent_mark b || is_sign b

-- These bytes do not go on with a number before them.
abbrev pub ends_number : List ℕ → Bool
ends_number [] = true
ends_number (b ∷ bytes) = not (in_numbers b)

-- The bytes between these are cut as this one token.
pub record IsCutAs (before bytes after : List ℕ) (t : Token) : Type 0 where
  pub is_cut : cut (before ++ bytes ++ after) (length before) plain ≡ token t
  pub stops : stop t.span ≡ length before + length bytes

-- The token of the buffer is one that these rules have.
abbrev pub IsTokenBy : Rules → List ℕ → Token → Type 0
IsTokenBy lenient_rules buffer t = Unit {0}
IsTokenBy strict_rules buffer t = strict_fault buffer t ≡ None

-- A token of RFC 8259 is one that either rules have.
pub token-by : (by : Rules) (buffer : List ℕ) (t : Token) → strict_fault buffer t ≡ None → IsTokenBy by buffer t
token-by lenient_rules buffer t right = tt
token-by strict_rules buffer t right = right

-- The bytes are one scalar's token, which means this, and which these rules have.
abbrev pub IsOneScalar : Rules → List ℕ → Tree → Type 0
IsOneScalar by bytes value = (before after : List ℕ) → ends_number after ≡ true → (t : Token) × IsCutAs before bytes after t
    × (is_scalar t.kind ≡ true) × (meaning (before ++ bytes ++ after) t ≡ Some value) × IsTokenBy by (before ++ bytes ++ after) t

-- The bytes are one string's token, which means this text, and which RFC 8259 has.
abbrev pub IsOneString : List ℕ → List ℕ → Type 0
IsOneString bytes content = (before after : List ℕ) → (t : Token) × IsCutAs before bytes after t
    × (is_string t.kind ≡ true) × (meaning (before ++ bytes ++ after) t ≡ Some (trees.text content))
    × (strict_fault (before ++ bytes ++ after) t ≡ None)
