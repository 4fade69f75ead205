-- The pieces of a text: the texts of its tokens and of its comments, in the order in which they stand (RFC 8259, section 2).
use Rattle.std.specs.Prelude.{ℕ, zero, suc, ◌-◌, Bool, false, cond, ◌==◌, ◌||◌, ◌&&◌, List, [], ◌∷◌, take}
use Rattle.facet_format.specs.Bytes.{is_space, comma, right_brace, right_bracket}
use Rattle.facet_json_token.specs.Gap.{Mode, whole}
use Rattle.facet_json_token.specs.GapLen.{piece_len}
use Rattle.facet_json_token.specs.Cut.{nothing_left, token, fault, cut_here}

pub data TextPiece : Type 0 where
  -- a token's bytes
  token_text : List ℕ → TextPiece
  -- a comment's bytes, without the end of its line
  comment : List ℕ → TextPiece
  -- no token stands there, and what follows is not looked at
  no_token : TextPiece

-- ---- the pieces of a text

abbrev pub kept : ℕ → List ℕ → List ℕ
kept b [] = cond (is_space b) [] (b ∷ [])
kept b (c ∷ bytes) = b ∷ c ∷ bytes

-- the bytes without the white space at their end
abbrev pub trimmed : List ℕ → List ℕ
trimmed [] = []
trimmed (b ∷ bytes) = kept b (trimmed bytes)

-- A piece of a gap is a comment, but for white space, of which nothing is left.
abbrev pub with_comment : List ℕ → List TextPiece → List TextPiece
with_comment [] ps = ps
with_comment (b ∷ text) ps = comment (b ∷ text) ∷ ps

-- the pieces after the next `inside` bytes, which are still of the piece before
unfoldable pub pieces_from : Mode → ℕ → List ℕ → List TextPiece
pieces_from mode inside [] = []
pieces_from mode (suc inside) (b ∷ bytes) = pieces_from mode inside bytes
pieces_from mode zero (b ∷ bytes) = elim (piece_len mode whole (b ∷ bytes)) [
  | suc inside ↦ with_comment (trimmed (take (suc inside) (b ∷ bytes))) (pieces_from mode inside bytes)
  | zero ↦ elim (cut_here mode 0 (b ∷ bytes)) [
    | token t ↦ token_text (take t.span.len (b ∷ bytes)) ∷ pieces_from mode (t.span.len - 1) bytes
    | fault f ↦ no_token ∷ []
    | nothing_left ↦ no_token ∷ []
  ]
]

-- the pieces of the text
abbrev pub pieces : Mode → List ℕ → List TextPiece
pieces mode bytes = pieces_from mode 0 bytes

-- ---- without the commas that trail

-- whether the token is a comma
abbrev pub is_comma : List ℕ → Bool
is_comma [] = false
is_comma (b ∷ text) = b == comma

-- whether a byte is a bracket that closes
abbrev pub closes : ℕ → Bool
closes b = (b == right_brace) || (b == right_bracket)

-- whether the next token is a closing bracket
abbrev pub closing_next : List TextPiece → Bool
closing_next [] = false
closing_next (no_token ∷ ps) = false
closing_next (comment text ∷ ps) = closing_next ps
closing_next (token_text [] ∷ ps) = false
closing_next (token_text (b ∷ text) ∷ ps) = closes b

-- the pieces but for the commas after which a closing bracket is the next token
abbrev pub without_trailing_commas : List TextPiece → List TextPiece
without_trailing_commas [] = []
without_trailing_commas (no_token ∷ ps) = no_token ∷ without_trailing_commas ps
without_trailing_commas (comment text ∷ ps) = comment text ∷ without_trailing_commas ps
without_trailing_commas (token_text text ∷ ps) =
    cond (is_comma text && closing_next ps) (without_trailing_commas ps) (token_text text ∷ without_trailing_commas ps)
