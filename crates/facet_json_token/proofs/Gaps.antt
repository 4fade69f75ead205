-- A gap piece by piece: how it goes on after a piece, and that it is no longer than the bytes.
use Rattle.std.proofs.Common.{◌≡◌, ℕ, zero, suc, ◌+◌, ◌≤◌, true, List, [], ◌∷◌, length, drop, refl, ap, ◌∙◌, arith}
use Rattle.std.proofs.lemmas.List.{drop-drop}
use Rattle.facet_format.specs.Bytes.{is_space}
use Rattle.facet_json_token.specs.Cut.{cut, cut_here, past_gap}
use Rattle.facet_json_token.specs.Gap.{Mode, plain, jsonc, Input, whole}
use Rattle.facet_json_token.specs.GapLen.{piece_len, gap_len_from, gap_len}

-- ---- by its first piece

-- White space is a piece of one byte.
pub piece_len-blank : (mode : Mode) (input : Input) (b : ℕ) (rest : List ℕ) → is_space b ≡ true →
    piece_len mode input (b ∷ rest) ≡ 1
piece_len-blank plain input b rest e = rw e
piece_len-blank jsonc input b rest e = rw e

-- the length of a gap whose first piece has this length
abbrev behind_piece : Mode → Input → List ℕ → ℕ → ℕ
behind_piece mode input bytes = elim [ zero ↦ 0 | suc inside ↦ suc (gap_len_from mode input inside bytes) ]

-- A gap is measured by its first piece.
gap_len-by_piece : (mode : Mode) (input : Input) (b : ℕ) (bytes : List ℕ) →
    gap_len mode input (b ∷ bytes) ≡ behind_piece mode input bytes (piece_len mode input (b ∷ bytes))
unfolding gap_len_from
gap_len-by_piece mode input b bytes = refl

-- Where no piece stands there is no gap.
pub gap_len-none : (mode : Mode) (input : Input) (bytes : List ℕ) → piece_len mode input bytes ≡ 0 →
    gap_len mode input bytes ≡ 0
unfolding gap_len_from
gap_len-none mode input [] e = refl
gap_len-none mode input (b ∷ bytes) e = gap_len-by_piece mode input b bytes ∙ ap (behind_piece mode input bytes) e

-- A gap goes on through a piece of it.
pub gap_len-some : (mode : Mode) (input : Input) (b : ℕ) (bytes : List ℕ) (n : ℕ) →
    piece_len mode input (b ∷ bytes) ≡ suc n → gap_len mode input (b ∷ bytes) ≡ suc (gap_len_from mode input n bytes)
gap_len-some mode input b bytes n e = gap_len-by_piece mode input b bytes ∙ ap (behind_piece mode input bytes) e

-- The gap after so many bytes of a piece is theirs and the gap after them.
gap_len_from-skip : (mode : Mode) (input : Input) (inside : ℕ) (bytes : List ℕ) → inside ≤ length bytes →
    gap_len_from mode input inside bytes ≡ inside + gap_len mode input (drop inside bytes)
unfolding gap_len_from
gap_len_from-skip mode input zero bytes h = omega arith
gap_len_from-skip mode input (suc inside) [] h = absurd (omega arith)
gap_len_from-skip mode input (suc inside) (b ∷ bytes) h =
    omega (arith, gap_len_from-skip mode input inside bytes (omega arith))

-- A gap is its first piece and the gap after it.
pub gap_len-piece : (mode : Mode) (input : Input) (n : ℕ) (bytes : List ℕ) → piece_len mode input bytes ≡ n →
    n ≤ length bytes → gap_len mode input bytes ≡ n + gap_len mode input (drop n bytes)
gap_len-piece mode input zero bytes e h = omega arith
gap_len-piece mode input (suc n) [] e h = absurd (omega arith)
gap_len-piece mode input (suc n) (b ∷ bytes) e h =
    omega (arith, gap_len-some mode input b bytes n e, gap_len_from-skip mode input n bytes (omega arith))

-- ---- its end

-- The gap is no longer than the bytes, also in the middle of a piece.
gap_len_from-bound : (mode : Mode) (input : Input) (inside : ℕ) (bytes : List ℕ) →
    gap_len_from mode input inside bytes ≤ length bytes
unfolding gap_len_from
gap_len_from-bound mode input inside [] = omega arith
gap_len_from-bound mode input (suc inside) (b ∷ bytes) = omega (arith, gap_len_from-bound mode input inside bytes)
gap_len_from-bound mode input zero (b ∷ bytes) =
    let bound : (n : ℕ) → behind_piece mode input bytes n ≤ suc (length bytes) =
    elim [ zero ↦ omega arith | suc inside ↦ omega (arith, gap_len_from-bound mode input inside bytes) ] in
    bound (piece_len mode input (b ∷ bytes))

-- The gap is no longer than the bytes.
pub gap_len-bound : (mode : Mode) (input : Input) (bytes : List ℕ) → gap_len mode input bytes ≤ length bytes
gap_len-bound mode input bytes = gap_len_from-bound mode input 0 bytes

-- No piece of a gap stands after the gap, also in the middle of a piece.
gap_len_from-ends : (mode : Mode) (input : Input) (inside : ℕ) (bytes : List ℕ) →
    piece_len mode input (drop (gap_len_from mode input inside bytes) bytes) ≡ 0
unfolding gap_len_from
gap_len_from-ends mode input inside [] = refl
gap_len_from-ends mode input (suc inside) (b ∷ bytes) = gap_len_from-ends mode input inside bytes
gap_len_from-ends mode input zero (b ∷ bytes) =
    by_piece (λ n. gap_len_from-ends mode input n bytes) (piece_len mode input (b ∷ bytes)) refl
  where
    by_piece : ((n : ℕ) → piece_len mode input (drop (gap_len_from mode input n bytes) bytes) ≡ 0) →
        (n : ℕ) → piece_len mode input (b ∷ bytes) ≡ n →
        piece_len mode input (drop (gap_len_from mode input 0 (b ∷ bytes)) (b ∷ bytes)) ≡ 0
    by_piece further zero e = rw (gap_len-none mode input (b ∷ bytes) e) e
    by_piece further (suc n) e = rw (gap_len-some mode input b bytes n e) (further n)

-- No piece of a gap stands after the gap.
pub gap_len-ends : (mode : Mode) (input : Input) (bytes : List ℕ) →
    piece_len mode input (drop (gap_len mode input bytes) bytes) ≡ 0
gap_len-ends mode input bytes = gap_len_from-ends mode input 0 bytes

-- ---- the position after it

-- No piece of a gap stands there.
pub past_gap-ends : (buffer : List ℕ) (p : ℕ) (mode : Mode) → piece_len mode whole (drop (past_gap buffer p mode) buffer) ≡ 0
past_gap-ends buffer p mode =
    let rest = drop p buffer in
    rw (drop-drop (gap_len mode whole rest) p buffer) at (gap_len-ends mode whole rest)

-- The gap from there on is empty.
pub past_gap-again : (buffer : List ℕ) (p : ℕ) (mode : Mode) → past_gap buffer (past_gap buffer p mode) mode ≡ past_gap buffer p mode
past_gap-again buffer p mode =
    let at = past_gap buffer p mode in
    let none : gap_len mode whole (drop at buffer) ≡ 0 = gap_len-none mode whole (drop at buffer) (past_gap-ends buffer p mode) in
    omega arith

-- From there on the same is cut.
pub cut-past_gap : (buffer : List ℕ) (p : ℕ) (mode : Mode) → cut buffer (past_gap buffer p mode) mode ≡ cut buffer p mode
unfolding cut
cut-past_gap buffer p mode = ap (λ n. cut_here mode n (drop n buffer)) (past_gap-again buffer p mode)
