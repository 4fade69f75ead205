-- The gap of a growing buffer is passed in every longer one too.
use Rattle.std.proofs.Common.{◌≡◌, ℕ, zero, suc, ◌+◌, ◌≤◌, ◌==◌, ◌&&◌, List, [], ◌∷◌, ◌++◌, length, drop, Option, Some, None, refl, sym, ap, ◌∙◌, arith}
use Rattle.std.proofs.lemmas.Bool.{cond_both}
use Rattle.std.proofs.lemmas.List.{drop-append-le, drop-drop}
use Rattle.facet_format.specs.Bytes.{is_space, slash, star, line_feed}
use Rattle.facet_json_token.specs.Gap.{Mode, plain, jsonc, whole, growing}
use Rattle.facet_json_token.specs.GapLen.{one_more, through_block_end, through_line_end, with_mark, with_line_mark, comment_len, piece_len, gap_len_from, gap_len}
use Rattle.facet_json_token.specs.Cut.{past_gap, cut_here, cut}
use Rattle.facet_json_token.specs.Tokens.{Tokens, AreCuts}
use Rattle.facet_json_token.proofs.Gaps.{gap_len-none, gap_len-some}
use Rattle.facet_json_scan.specs.Scanner.{past_growing_gap}
use Rattle.facet_json_scan.proofs.Growth.GrowthOfGap.{piece_len-keeps}

-- ---- a piece is no longer than the bytes

-- A length that was found is at most k.
abbrev AtMost : Option ℕ → ℕ → Type 0
AtMost None k = Unit {0}
AtMost (Some n) k = n ≤ k

one_more-at_most : (o : Option ℕ) (k : ℕ) → AtMost o k → AtMost (one_more o) (suc k)
one_more-at_most None k h = tt
one_more-at_most (Some n) k h = omega arith

block_end-bound : (bytes : List ℕ) → AtMost (through_block_end bytes) (length bytes)
block_end-bound [] = tt
block_end-bound (b ∷ []) = tt
block_end-bound (b ∷ c ∷ bytes) =
    cond_both ((b == star) && (c == slash)) _ _ (λ o. AtMost o (suc (suc (length bytes)))) (λ _. omega arith)
    (λ _. one_more-at_most (through_block_end (c ∷ bytes)) (suc (length bytes)) (block_end-bound (c ∷ bytes)))

line_end-bound : (bytes : List ℕ) → AtMost (through_line_end bytes) (length bytes)
line_end-bound [] = tt
line_end-bound (b ∷ bytes) =
    cond_both (b == line_feed) _ _ (λ o. AtMost o (suc (length bytes))) (λ _. omega arith)
    (λ _. one_more-at_most (through_line_end bytes) (length bytes) (line_end-bound bytes))

with_mark-bound : (o : Option ℕ) (k : ℕ) → AtMost o k → with_mark o ≤ suc (suc k)
with_mark-bound None k h = omega arith
with_mark-bound (Some n) k h = omega arith

with_line_mark-bound : (bytes : List ℕ) (o : Option ℕ) (k : ℕ) → AtMost o k → with_line_mark growing bytes o ≤ suc (suc k)
with_line_mark-bound bytes None k h = omega arith
with_line_mark-bound bytes (Some n) k h = omega arith

comment_len-bound : (bytes : List ℕ) → comment_len growing bytes ≤ length bytes
comment_len-bound [] = omega arith
comment_len-bound (a ∷ []) = omega arith
comment_len-bound (a ∷ b ∷ bytes) =
    cond_both ((a == slash) && (b == star)) _ _ (λ n. n ≤ suc (suc (length bytes)))
    (λ _. with_mark-bound (through_block_end bytes) (length bytes) (block_end-bound bytes))
    (λ _. cond_both ((a == slash) && (b == slash)) _ _ (λ n. n ≤ suc (suc (length bytes)))
    (λ _. with_line_mark-bound bytes (through_line_end bytes) (length bytes) (line_end-bound bytes)) (λ _. omega arith))

-- A piece of a gap in a growing buffer is no longer than the bytes.
piece_len-bound : (mode : Mode) (bytes : List ℕ) → piece_len mode growing bytes ≤ length bytes
piece_len-bound mode [] = omega arith
piece_len-bound plain (b ∷ bytes) =
    cond_both (is_space b) _ _ (λ n. n ≤ suc (length bytes)) (λ _. omega arith) (λ _. omega arith)
piece_len-bound jsonc (b ∷ bytes) =
    cond_both (is_space b) _ _ (λ n. n ≤ suc (length bytes)) (λ _. omega arith) (λ _. comment_len-bound (b ∷ bytes))

-- ---- the gap goes on behind it

-- The gap of all bytes is that of the growing buffer, and the gap after it.
abbrev GoesOn : Mode → List ℕ → List ℕ → ℕ → Type 0
GoesOn mode bytes more inside =
    inside ≤ length bytes →
    let n = gap_len_from mode growing inside bytes in
    gap_len_from mode whole inside (bytes ++ more) ≡ n + gap_len mode whole (drop n (bytes ++ more))

-- It goes on where a piece begins it, and where none does.
goes_on-by_piece : (mode : Mode) (b : ℕ) (bytes more : List ℕ) → ((n : ℕ) → GoesOn mode bytes more n) →
    (n : ℕ) → piece_len mode growing (b ∷ bytes) ≡ n → GoesOn mode (b ∷ bytes) more 0
goes_on-by_piece mode b bytes more further zero e room = rw (gap_len-none mode growing (b ∷ bytes) e) (omega arith)
goes_on-by_piece mode b bytes more further (suc n) e room =
    let all = gap_len-some mode whole b (bytes ++ more) n (piece_len-keeps mode (b ∷ bytes) more n e) in
    let inside : n ≤ length bytes = omega (arith, piece_len-bound mode (b ∷ bytes), e) in
    rw (gap_len-some mode growing b bytes n e) (omega (arith, all, further n inside))

gap_len-goes_on : (mode : Mode) (inside : ℕ) (bytes more : List ℕ) → GoesOn mode bytes more inside
unfolding gap_len_from
gap_len-goes_on mode zero [] more room = omega arith
gap_len-goes_on mode (suc inside) [] more room = absurd (omega arith)
gap_len-goes_on mode (suc inside) (b ∷ bytes) more room = omega (arith, gap_len-goes_on mode inside bytes more (omega arith))
gap_len-goes_on mode zero (b ∷ bytes) more room =
    goes_on-by_piece mode b bytes more (λ n. gap_len-goes_on mode n bytes more) (piece_len mode growing (b ∷ bytes)) refl room

-- What is cut of all bytes is cut where the gap of the growing buffer ends.
pub cut-passed : (buffer more : List ℕ) (p : ℕ) (mode : Mode) → p ≤ length buffer →
    cut (buffer ++ more) (past_growing_gap buffer p mode) mode ≡ cut (buffer ++ more) p mode
unfolding cut
cut-passed buffer more p mode room =
    let rest = drop p buffer in
    let n = gap_len mode growing rest in
    let goes_on : gap_len mode whole (rest ++ more) ≡ n + gap_len mode whole (drop n (rest ++ more)) =
    gap_len-goes_on mode 0 rest more (omega arith) in
    let here : drop p (buffer ++ more) ≡ rest ++ more = drop-append-le p buffer more room in
    let there : drop (p + n) (buffer ++ more) ≡ drop n (rest ++ more) =
    sym (drop-drop n p (buffer ++ more)) ∙ ap (drop n) here in
    let same : past_gap (buffer ++ more) (p + n) mode ≡ past_gap (buffer ++ more) p mode =
    omega (arith, goes_on, ap (gap_len mode whole) here, ap (gap_len mode whole) there) in
    ap (λ k. cut_here mode k (drop k (buffer ++ more))) same

-- So are all tokens from there on.
cuts-moved : (buffer : List ℕ) (mode : Mode) (p q : ℕ) (these : Tokens) → cut buffer q mode ≡ cut buffer p mode →
    AreCuts buffer mode q these → AreCuts buffer mode p these
cuts-moved buffer mode p q _ same (AreCuts.ends _ e) = AreCuts.ends p (sym same ∙ e)
cuts-moved buffer mode p q _ same (AreCuts.breaks_off _ f e) = AreCuts.breaks_off p f (sym same ∙ e)
cuts-moved buffer mode p q _ same (AreCuts.goes_on _ t others e are) = AreCuts.goes_on p t others (sym same ∙ e) are

pub cuts-passed : (buffer more : List ℕ) (p : ℕ) (mode : Mode) (these : Tokens) → p ≤ length buffer →
    AreCuts (buffer ++ more) mode (past_growing_gap buffer p mode) these → AreCuts (buffer ++ more) mode p these
cuts-passed buffer more p mode these room are =
    cuts-moved (buffer ++ more) mode p (past_growing_gap buffer p mode) these (cut-passed buffer more p mode room) are
