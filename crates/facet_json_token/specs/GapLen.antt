-- How long the longest gap at the start of some bytes is, computed.
use Rattle.std.specs.Prelude.{ℕ, zero, suc, cond, ◌==◌, ◌&&◌, List, [], ◌∷◌, length, Option, Some, None}
use Rattle.facet_format.specs.Bytes.{is_space, slash, star, line_feed}
use Rattle.facet_json_token.specs.Gap.{Mode, plain, jsonc, Input, whole, growing}

abbrev pub one_more : Option ℕ → Option ℕ
one_more None = None
one_more (Some n) = Some (suc n)

-- the number of bytes up to and with the first `*/`
abbrev pub through_block_end : List ℕ → Option ℕ
through_block_end [] = None
through_block_end (b ∷ []) = None
through_block_end (b ∷ c ∷ bytes) = cond ((b == star) && (c == slash)) (Some 2) (one_more (through_block_end (c ∷ bytes)))

-- the number of bytes up to and with the first line feed
abbrev pub through_line_end : List ℕ → Option ℕ
through_line_end [] = None
through_line_end (b ∷ bytes) = cond (b == line_feed) (Some 1) (one_more (through_line_end bytes))

-- two more than the number, or nothing
abbrev pub with_mark : Option ℕ → ℕ
with_mark None = 0
with_mark (Some n) = suc (suc n)

-- the same of a line comment, which the end of a whole input ends too
abbrev pub with_line_mark : Input → List ℕ → Option ℕ → ℕ
with_line_mark input bytes (Some n) = suc (suc n)
with_line_mark whole bytes None = suc (suc (length bytes))
with_line_mark growing bytes None = 0

-- the length of the comment at the start, 0 where none is closed there
abbrev pub comment_len : Input → List ℕ → ℕ
comment_len input [] = 0
comment_len input (a ∷ []) = 0
comment_len input (a ∷ b ∷ bytes) =
    cond ((a == slash) && (b == star)) (with_mark (through_block_end bytes))
    (cond ((a == slash) && (b == slash)) (with_line_mark input bytes (through_line_end bytes)) 0)

-- the length of the piece of a gap at the start, 0 where there is none
abbrev pub piece_len : Mode → Input → List ℕ → ℕ
piece_len mode input [] = 0
piece_len plain input (b ∷ bytes) = cond (is_space b) 1 0
piece_len jsonc input (b ∷ bytes) = cond (is_space b) 1 (comment_len input (b ∷ bytes))

-- the length of the gap after the next `inside` bytes, which are still of the piece before it, and theirs
unfoldable pub gap_len_from : Mode → Input → ℕ → List ℕ → ℕ
gap_len_from mode input inside [] = 0
gap_len_from mode input (suc inside) (b ∷ bytes) = suc (gap_len_from mode input inside bytes)
gap_len_from mode input zero (b ∷ bytes) =
    elim (piece_len mode input (b ∷ bytes)) [ zero ↦ 0 | suc inside ↦ suc (gap_len_from mode input inside bytes) ]

-- the length of the longest gap at the start
abbrev pub gap_len : Mode → Input → List ℕ → ℕ
gap_len mode input bytes = gap_len_from mode input 0 bytes
