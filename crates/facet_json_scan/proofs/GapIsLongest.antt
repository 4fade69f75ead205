-- The gap that is measured is a gap, and the longest.
use Rattle.std.proofs.Common.{◌≡◌, ℕ, zero, suc, ◌+◌, ◌≤◌, true, false, ◌==◌, ◌&&◌, List, [], ◌∷◌, ◌++◌, length, take, drop, Option, Some, None, refl, sym, ap, ◌∙◌, subst, arith, length-append, take-append-drop, take-add, append_assoc}
use Rattle.std.proofs.lemmas.Bool.{cond_both, eqb-true, and_parts}
use Rattle.std.proofs.lemmas.List.{append-nil, take_all, drop_all, drop-drop, drop_at, length-take-le}
use Rattle.facet_format.specs.Bytes.{is_space, slash, star, line_feed}
use Rattle.facet_json_token.specs.Gap.{Mode, plain, jsonc, Input, whole, growing, ClosesBlock, OpensLine, ClosesLine, IsPiece, blank, block, line, last_line, IsGap, empty, piece}
use Rattle.facet_json_token.specs.GapLen.{one_more, through_block_end, through_line_end, with_mark, with_line_mark, comment_len, piece_len, gap_len}
use Rattle.facet_json_token.specs.Laws.{GapIsLongest}
use Rattle.facet_json_token.proofs.Gaps.{piece_len-blank, gap_len-none, gap_len-piece, gap_len-bound}
use Rattle.facet_json_scan.proofs.NoPiece.{opens_line-none}

-- ---- what is measured is a piece

-- the bytes end with their first `*/` after so many, or hold none
abbrev BlockAt : List ℕ → Option ℕ → Type 0
BlockAt bytes None = Unit {0}
BlockAt bytes (Some n) = (n ≤ length bytes) × ClosesBlock (take n bytes)

-- One byte more before a block that ends with its first `*/`.
block_more : (b c n : ℕ) (bytes : List ℕ) → ((b == star) && (c == slash)) ≡ false → ClosesBlock (take n (c ∷ bytes)) →
    ClosesBlock (b ∷ take n (c ∷ bytes))
block_more b c zero bytes e h = elim h [ ]
block_more b c (suc n) bytes e h = ClosesBlock.more b c (take n bytes) e h

-- The same of its length.
block_further : (b c : ℕ) (bytes : List ℕ) (o : Option ℕ) → ((b == star) && (c == slash)) ≡ false →
    BlockAt (c ∷ bytes) o → BlockAt (b ∷ c ∷ bytes) (one_more o)
block_further b c bytes None e h = tt
block_further b c bytes (Some n) e h = (omega (arith, h.0), block_more b c n bytes e h.1)

-- A block that ends at once.
block_here : (b c : ℕ) (bytes : List ℕ) → ((b == star) && (c == slash)) ≡ true → BlockAt (b ∷ c ∷ bytes) (Some 2)
block_here b c bytes e =
    let both = and_parts (b == star) (c == slash) e in
    rw (eqb-true b star both.0, eqb-true c slash both.1) (omega arith, ClosesBlock.last)

-- The length of a block is measured.
block_at : (bytes : List ℕ) → BlockAt bytes (through_block_end bytes)
block_at [] = tt
block_at (b ∷ []) = tt
block_at (b ∷ c ∷ bytes) =
    cond_both ((b == star) && (c == slash)) _ _ (BlockAt (b ∷ c ∷ bytes)) (block_here b c bytes)
    (λ e. block_further b c bytes (through_block_end (c ∷ bytes)) e (block_at (c ∷ bytes)))

-- the bytes end with their first line feed after so many, or hold none
abbrev LineAt : List ℕ → Option ℕ → Type 0
LineAt bytes None = OpensLine bytes
LineAt bytes (Some n) = (n ≤ length bytes) × ClosesLine (take n bytes)

-- One byte more before a line.
line_further : (b : ℕ) (bytes : List ℕ) (o : Option ℕ) → (b == line_feed) ≡ false → LineAt bytes o →
    LineAt (b ∷ bytes) (one_more o)
line_further b bytes None e h = OpensLine.more b bytes e h
line_further b bytes (Some n) e h = (omega (arith, h.0), ClosesLine.more b (take n bytes) e h.1)

-- A line that ends at once.
line_here : (b : ℕ) (bytes : List ℕ) → (b == line_feed) ≡ true → LineAt (b ∷ bytes) (Some 1)
line_here b bytes e = rw (eqb-true b line_feed e) (omega arith, ClosesLine.last)

-- The length of a line is measured.
line_at : (bytes : List ℕ) → LineAt bytes (through_line_end bytes)
line_at [] = OpensLine.nothing
line_at (b ∷ bytes) =
    cond_both (b == line_feed) _ _ (LineAt (b ∷ bytes)) (line_here b bytes)
    (λ e. line_further b bytes (through_line_end bytes) e (line_at bytes))

-- so many bytes are a piece, or none are meant
abbrev PieceAt : Mode → Input → List ℕ → ℕ → Type 0
PieceAt mode input bytes zero = Unit {0}
PieceAt mode input bytes (suc n) = (suc n ≤ length bytes) × IsPiece mode input (take (suc n) bytes) (drop (suc n) bytes)

-- A block comment that is closed is a piece.
block_piece : (input : Input) (bytes : List ℕ) (o : Option ℕ) → BlockAt bytes o →
    PieceAt jsonc input (slash ∷ star ∷ bytes) (with_mark o)
block_piece input bytes None h = tt
block_piece input bytes (Some n) h = (omega (arith, h.0), block input (take n bytes) (drop n bytes) h.1)

-- A line comment that is closed, by the end of a whole input too, is a piece.
line_piece : (input : Input) (bytes : List ℕ) (o : Option ℕ) → LineAt bytes o →
    PieceAt jsonc input (slash ∷ slash ∷ bytes) (with_line_mark input bytes o)
line_piece growing bytes None h = tt
line_piece whole bytes None h =
    let n = length bytes in
    let all : IsPiece jsonc whole (slash ∷ slash ∷ take n bytes) (drop n bytes) =
    rw (take_all n bytes (omega arith), drop_all n bytes (omega arith)) (last_line bytes h) in
    (omega arith, all)
line_piece growing bytes (Some n) h = (omega (arith, h.0), line growing (take n bytes) (drop n bytes) h.1)
line_piece whole bytes (Some n) h = (omega (arith, h.0), line whole (take n bytes) (drop n bytes) h.1)

-- What holds of two bytes holds of equal ones.
at_bytes : (P : ℕ → ℕ → Type 0) (a b c d : ℕ) → ((a == c) && (b == d)) ≡ true → P c d → P a b
at_bytes P a b c d e h =
    let both = and_parts (a == c) (b == d) e in
    subst (λ x. P x b) (sym (eqb-true a c both.0)) (subst (P c) (sym (eqb-true b d both.1)) h)

-- A comment that is measured is a piece.
comment_at : (input : Input) (bytes : List ℕ) → PieceAt jsonc input bytes (comment_len input bytes)
comment_at input [] = tt
comment_at input (a ∷ []) = tt
comment_at input (a ∷ b ∷ bytes) =
    cond_both ((a == slash) && (b == star)) _ _ (PieceAt jsonc input (a ∷ b ∷ bytes))
    (λ e. at_bytes (λ x y. PieceAt jsonc input (x ∷ y ∷ bytes) (with_mark (through_block_end bytes))) a b slash star e
    (block_piece input bytes _ (block_at bytes)))
    (λ _. cond_both ((a == slash) && (b == slash)) _ _ (PieceAt jsonc input (a ∷ b ∷ bytes))
    (λ e. at_bytes (λ x y. PieceAt jsonc input (x ∷ y ∷ bytes) (with_line_mark input bytes (through_line_end bytes)))
    a b slash slash e (line_piece input bytes _ (line_at bytes)))
    (λ _. tt))

-- The bytes that are measured as a piece are one.
piece_at : (mode : Mode) (input : Input) (bytes : List ℕ) → PieceAt mode input bytes (piece_len mode input bytes)
piece_at mode input [] = tt
piece_at plain input (b ∷ bytes) =
    cond_both (is_space b) _ _ (PieceAt plain input (b ∷ bytes)) (λ e. (omega arith, blank plain input b bytes e))
    (λ _. tt)
piece_at jsonc input (b ∷ bytes) =
    cond_both (is_space b) _ _ (PieceAt jsonc input (b ∷ bytes)) (λ e. (omega arith, blank jsonc input b bytes e))
    (λ _. comment_at input (b ∷ bytes))

-- ---- the gap, piece by piece

-- the bytes begin with the gap that is measured
abbrev GapAt : Mode → Input → List ℕ → Type 0
GapAt mode input bytes =
    IsGap mode input (take (gap_len mode input bytes) bytes) (drop (gap_len mode input bytes) bytes)

-- Where none is measured, the gap is empty.
gap_none : (mode : Mode) (input : Input) (bytes : List ℕ) → gap_len mode input bytes ≡ 0 → GapAt mode input bytes
gap_none mode input bytes e = subst (λ n. IsGap mode input (take n bytes) (drop n bytes)) (sym e) (empty bytes)

-- A piece and a gap after it are a gap.
gap_more : (mode : Mode) (input : Input) (n : ℕ) (bytes : List ℕ) → piece_len mode input bytes ≡ n →
    n ≤ length bytes → IsPiece mode input (take n bytes) (drop n bytes) →
    GapAt mode input (drop n bytes) → GapAt mode input bytes
gap_more mode input n bytes e h first others =
    let rest = drop n bytes in
    let k = gap_len mode input rest in
    let all : gap_len mode input bytes ≡ n + k = gap_len-piece mode input n bytes e h in
    let first_piece : IsPiece mode input (take n bytes) (take k rest ++ drop k rest) =
    subst (IsPiece mode input (take n bytes)) (sym (take-append-drop k rest)) first in
    let left : drop k rest ≡ drop (n + k) bytes = drop-drop k n bytes in
    let whole_gap : IsGap mode input (take (n + k) bytes) (drop k rest) =
    piece (take n bytes) (take k rest) _ _ first_piece others (take-add n k bytes) in
    subst (λ m. IsGap mode input (take m bytes) (drop m bytes)) (sym all)
    (subst (IsGap mode input (take (n + k) bytes)) left whole_gap)

-- What is measured as a gap is one, also after the next bytes.
gap_at : (mode : Mode) (input : Input) (inside : ℕ) (bytes : List ℕ) → GapAt mode input (drop inside bytes)
gap_at mode input zero [] = gap_none mode input [] (gap_len-none mode input [] refl)
gap_at mode input (suc inside) [] = gap_none mode input [] (gap_len-none mode input [] refl)
gap_at mode input (suc inside) (b ∷ bytes) = gap_at mode input inside bytes
gap_at mode input zero (b ∷ bytes) =
    let by_piece : (n : ℕ) → piece_len mode input (b ∷ bytes) ≡ n → PieceAt mode input (b ∷ bytes) n →
    GapAt mode input (b ∷ bytes) =
    elim [
      | zero ↦ λ e _. gap_none mode input (b ∷ bytes) (gap_len-none mode input (b ∷ bytes) e)
      | suc n ↦ λ e h. gap_more mode input (suc n) (b ∷ bytes) e h.0 h.1 (gap_at mode input n bytes)
    ] in
    by_piece (piece_len mode input (b ∷ bytes)) refl (piece_at mode input (b ∷ bytes))

-- ---- a piece and a gap are measured by their lengths

-- A block comment is measured up to its end.
closes_block-len : (body rest : List ℕ) → ClosesBlock body → through_block_end (body ++ rest) ≡ Some (length body)
closes_block-len _ rest ClosesBlock.last = refl
closes_block-len _ rest (ClosesBlock.more b c bytes e h) = rw e (ap one_more (closes_block-len (c ∷ bytes) rest h))

-- A line is measured up to its end.
closes_line-len : (body rest : List ℕ) → ClosesLine body → through_line_end (body ++ rest) ≡ Some (length body)
closes_line-len _ rest ClosesLine.last = refl
closes_line-len _ rest (ClosesLine.more b bytes e h) = rw e (ap one_more (closes_line-len bytes rest h))

-- A line comment is its mark and its line.
line_mark : (input : Input) (bytes : List ℕ) (n : ℕ) → with_line_mark input bytes (Some n) ≡ suc (suc n)
line_mark whole bytes n = refl
line_mark growing bytes n = refl

-- A piece of a gap is measured as long as it is.
piece_len-is : (mode : Mode) (input : Input) (first rest : List ℕ) → IsPiece mode input first rest →
    piece_len mode input (first ++ rest) ≡ length first
piece_len-is _ _ _ _ (blank mode input b rest e) = piece_len-blank mode input b rest e
piece_len-is _ _ _ _ (block input body rest h) = ap with_mark (closes_block-len body rest h)
piece_len-is _ _ _ _ (line input body rest h) =
    ap (with_line_mark input (body ++ rest)) (closes_line-len body rest h)
    ∙ line_mark input (body ++ rest) (length body)
piece_len-is _ _ _ _ (last_line body h) =
    ap (λ l. piece_len jsonc whole (slash ∷ slash ∷ l)) (append-nil body)
    ∙ ap (with_line_mark whole body) (opens_line-none body h)

-- A gap is measured as long as it is, and the gap after it.
gap_len-is : (mode : Mode) (input : Input) (bytes rest : List ℕ) → IsGap mode input bytes rest →
    gap_len mode input (bytes ++ rest) ≡ length bytes + gap_len mode input rest
gap_len-is mode input _ _ (empty rest) = omega arith
gap_len-is mode input _ _ (piece first others bytes rest is_piece is_gap e) =
    let whole : bytes ++ rest ≡ first ++ (others ++ rest) = ap (λ l. l ++ rest) e ∙ append_assoc first others rest in
    let n = length first in
    let step : gap_len mode input (first ++ (others ++ rest))
    ≡ n + gap_len mode input (drop n (first ++ (others ++ rest))) =
    gap_len-piece mode input n (first ++ (others ++ rest)) (piece_len-is mode input first (others ++ rest) is_piece)
    (omega (arith, length-append first (others ++ rest))) in
    let behind_it : gap_len mode input (drop n (first ++ (others ++ rest))) ≡ length others + gap_len mode input rest =
    ap (gap_len mode input) (drop_at first (others ++ rest) n refl) ∙ gap_len-is mode input others rest is_gap in
    let long : length bytes ≡ n + length others = ap length e ∙ length-append first others in
    ap (gap_len mode input) whole ∙ step ∙ ap (λ k. n + k) behind_it ∙ omega arith

-- A prefix that is a gap is no longer than the gap that is measured.
gap_len-longest : (mode : Mode) (input : Input) (bytes : List ℕ) (k : ℕ) → k ≤ length bytes →
    IsGap mode input (take k bytes) (drop k bytes) → k ≤ gap_len mode input bytes
gap_len-longest mode input bytes k h is_gap =
    let e : gap_len mode input (take k bytes ++ drop k bytes)
    ≡ length (take k bytes) + gap_len mode input (drop k bytes) =
    gap_len-is mode input (take k bytes) (drop k bytes) is_gap in
    let same : gap_len mode input (take k bytes ++ drop k bytes) ≡ gap_len mode input bytes =
    ap (gap_len mode input) (take-append-drop k bytes) in
    omega (arith, length-take-le k bytes h)

-- The gap at the start is a gap, and no longer prefix of the bytes is one.
pub gap_is_longest : GapIsLongest
gap_is_longest mode input bytes =
    (gap_len-bound mode input bytes, gap_at mode input 0 bytes, gap_len-longest mode input bytes)
