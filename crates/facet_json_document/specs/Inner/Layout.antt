-- Where the layout of a text stands: what is found at an offset, and what is written so far. The one file of the definitions of the
-- layout that names types of the code.
use Rattle.std.specs.Prelude.{◌≡◌, ◌+◌, ◌<◌, ◌≤◌, ◌-◌, ℕ, Bool, true, false, cond, not, ◌==◌, ◌||◌, List, [], ◌∷◌, ◌++◌, length, take, drop}
use Rattle.facet_format.specs.Bytes as bytes
use Rattle.facet_format.specs.Bytes.{line_feed, is_digit, dot, is_exponent_mark, is_sign, comma, colon, left_brace, left_bracket}
use Rattle.facet_json_token.specs.Gap.{Mode}
use Rattle.facet_json_grammar.specs.RfcText.{AreSpaces}
use Rattle.facet_json_document.specs.Pieces.{TextPiece, token_text, comment, no_token, pieces, without_trailing_commas, is_comma, closes}
use Rattle.facet_json_document.specs.declared.pieces.Sort.{Sort}
use Rattle.facet_json_document.specs.declared.pieces.Sort.TheVariants as sort
use Rattle.facet_json_document.specs.declared.pieces.PieceAt.{PieceAt}
use Rattle.facet_json_document.specs.declared.pieces.PieceAt.TheVariants as found
use Rattle.facet_json_document.specs.declared.spacing.Space.{Space}
use Rattle.facet_json_document.specs.declared.spacing.Space.TheVariants as space

-- ---- what may follow

-- whether bytes do not go on with a number before them
abbrev pub ends_number : List ℕ → Bool
ends_number [] = true
ends_number (b ∷ bytes) = not (is_digit b || (b == dot) || is_exponent_mark b || is_sign b)

-- whether bytes end a line comment before them
abbrev pub ends_line : List ℕ → Bool
ends_line [] = true
ends_line (b ∷ bytes) = b == line_feed

-- whether bytes may stand right after such a piece, so that it is none longer
abbrev pub may_follow : Sort → List ℕ → Bool
may_follow sort.Line bytes = ends_line bytes
may_follow sort.Scalar bytes = ends_number bytes
may_follow _ bytes = true

-- ---- what is found

-- the piece of this sort with this text
abbrev pub piece_of : Sort → List ℕ → TextPiece
piece_of sort.Block text = comment text
piece_of sort.Line text = comment text
piece_of _ text = token_text text

-- what a token is that begins with this byte
abbrev pub sort_by : ℕ → Sort
sort_by b =
    cond ((b == left_brace) || (b == left_bracket)) sort.Opening (cond (closes b) sort.Closing (cond (b == comma) sort.Comma
    (cond (b == colon) sort.Colon sort.Scalar)))

-- whether it is a comma
abbrev pub is_comma_sort : Sort → Bool
is_comma_sort sort.Comma = true
is_comma_sort _ = false

-- The bytes begin with such a piece, so many bytes long.
pub record BeginsPiece (mode : Mode) (bytes : List ℕ) (s : Sort) (len : ℕ) : Type 0 where
  pub some : 0 < len
  pub within : len ≤ length bytes
  pub came : pieces mode bytes ≡ piece_of s (take len bytes) ∷ pieces mode (drop len bytes)
  -- It is that piece wherever it stands.
  pub again : (k : List ℕ) → may_follow s k ≡ true → pieces mode (take len bytes ++ k) ≡ piece_of s (take len bytes) ∷ pieces mode k
  -- Any but a scalar ends a number before it.
  pub ends : (s ≡ sort.Scalar → ⊥) → (k : List ℕ) → ends_number (take len bytes ++ k) ≡ true
  pub commas : is_comma (take len bytes) ≡ is_comma_sort s

-- whether each token of the text is one
abbrev pub all_tokens : List TextPiece → Bool
all_tokens [] = true
all_tokens (no_token ∷ ps) = false
all_tokens (comment text ∷ ps) = all_tokens ps
all_tokens (token_text text ∷ ps) = all_tokens ps

-- What stands at an offset of the text.
abbrev pub IsFound : Mode → List ℕ → ℕ → PieceAt → Type 0
IsFound mode text at (found.Blank b) = (at < length text) × (pieces mode (drop at text) ≡ pieces mode (drop (at + 1) text))
IsFound mode text at (found.Piece s end) = (at ≤ end) × BeginsPiece mode (drop at text) s (end - at)
IsFound mode text at found.End = all_tokens (pieces mode (drop at text)) ≡ true → pieces mode (drop at text) ≡ []

-- ---- white space

-- White space was appended.
pub record IsIndented (old new : List ℕ) : Type 0 where
  pub spaces : List ℕ
  pub blank : AreSpaces spaces
  pub appended : new ≡ old ++ spaces

-- how such white space begins
abbrev pub BeginsSpace : Space → List ℕ → Type 0
BeginsSpace space.None bytes = bytes ≡ []
BeginsSpace space.Blank spaces = spaces ≡ bytes.space ∷ []
BeginsSpace space.Line bytes = (rest : List ℕ) × (bytes ≡ line_feed ∷ rest)
BeginsSpace space.EmptyLine bytes = (rest : List ℕ) × (bytes ≡ line_feed ∷ rest)

-- Such white space was appended.
pub record IsSpaced (s : Space) (old new : List ℕ) : Type 0 where
  pub by : IsIndented old new
  pub begins : BeginsSpace s by.spaces

-- whether such white space keeps the one piece from going on with the other
abbrev pub keeps_apart : Sort → Sort → Space → Bool
keeps_apart sort.Line next space.None = false
keeps_apart sort.Line next space.Blank = false
keeps_apart sort.Scalar sort.Scalar space.None = false
keeps_apart last next s = true

-- ---- what is written so far

-- Up to an offset the text is laid out, and this piece was the last.
pub record IsLaidOut (mode : Mode) (text : List ℕ) (at : ℕ) (last : Sort) (out : List ℕ) : Type 0 where
  pub within : at ≤ length text
  pub written : List TextPiece
  pub came : without_trailing_commas (pieces mode text) ≡ written ++ without_trailing_commas (pieces mode (drop at text))
  pub goes_on : (k : List ℕ) → may_follow last k ≡ true → pieces mode (out ++ k) ≡ written ++ pieces mode k
  pub tokens : all_tokens (pieces mode (drop at text)) ≡ true
