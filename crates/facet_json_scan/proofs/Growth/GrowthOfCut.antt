-- What is cut where a buffer isn't open is cut alike from every longer buffer with that prefix.
use Rattle.std.proofs.Common.{◌≡◌, ℕ, ◌+◌, ◌≤◌, Bool, true, false, cond, ◌==◌, List, [], ◌∷◌, ◌++◌, length, drop, refl, sym, ap, ◌∙◌, arith}
use Rattle.std.proofs.lemmas.Bool.{eqb-true}
use Rattle.std.proofs.lemmas.List.{drop-append-le, append-nil, drop-drop, length-drop}
use Rattle.facet_format.specs.Bytes.{slash, star}
use Rattle.facet_json_token.specs.Gap.{Mode, plain, jsonc, growing}
use Rattle.facet_json_token.specs.GapLen.{piece_len, gap_len}
use Rattle.facet_json_token.specs.Cut.{nothing_left, Start, start_of, cut_slash, cut_by, cut_here, past_gap, cut}
use Rattle.facet_json_token.specs.Open.{IsBeginning, IsOpen}
use Rattle.facet_json_scan.specs.Scanner.{past_growing_gap}
use Rattle.facet_json_token.specs.Laws.{CutStays}
use Rattle.facet_json_token.proofs.Starts.{Begins, a_mark, a_word, a_text, a_number, a_comment, no_token, start_of-begins}
use Rattle.facet_json_token.proofs.Gaps.{gap_len-bound, gap_len-ends}
use Rattle.facet_json_scan.proofs.Growth.GrowthOfGap.{block_begins, gap_len-stays}
use Rattle.facet_json_scan.proofs.Growth.GrowthOfText.{cut_text-stays, cut_word-stays}
use Rattle.facet_json_scan.proofs.Growth.GrowthOfNumber.{cut_number-stays}

-- A choice whose first side is never taken is the second.
cond-same : {X : Type 0} (t : Bool) (x y z : X) → (t ≡ true → ⊥) → cond t x z ≡ cond t y z
cond-same true x y z never = absurd (never refl)
cond-same false x y z never = refl

-- A slash is cut alike from more bytes.
cut_slash-stays : (mode : Mode) (at : ℕ) (bytes more : List ℕ) → (IsBeginning mode (slash ∷ bytes) → ⊥) →
    piece_len mode growing (slash ∷ bytes) ≡ 0 →
    cut_slash mode at (bytes ++ more) ≡ cut_slash mode at bytes
cut_slash-stays plain at bytes more shut none = refl
cut_slash-stays jsonc at [] more shut none = absurd (shut IsBeginning.slash_alone)
cut_slash-stays jsonc at (b ∷ bytes) more shut none = cond-same (b == star) _ _ _ closed
  where
    closed : (b == star) ≡ true → ⊥
    closed t =
        let is : b ≡ star = eqb-true b star t in
        shut (rw is (block_begins bytes (rw is at none)))

-- What begins with a byte, and is the beginning of nothing longer, is cut alike from more bytes.
cut_by-stays : (start : Start) (mode : Mode) (at b : ℕ) (bytes more : List ℕ) → Begins b start →
    (IsBeginning mode (b ∷ bytes) → ⊥) →
    piece_len mode growing (b ∷ bytes) ≡ 0 → cut_by start mode at b (bytes ++ more) ≡ cut_by start mode at b bytes
cut_by-stays _ mode at b bytes more (a_mark _ kind h) shut none = refl
cut_by-stays _ mode at b bytes more (a_word _ letters kind h) shut none =
    cut_word-stays at (b ∷ bytes) more (b ∷ letters) kind
    (λ others e some. shut (IsBeginning.literal mode (b ∷ bytes) others kind (rw (← e) h) (λ nil. cc) some))
cut_by-stays _ mode at b bytes more a_text shut none = cut_text-stays mode at bytes more shut
cut_by-stays _ mode at b bytes more (a_number _ h) shut none = cut_number-stays mode at b bytes more h shut
cut_by-stays _ mode at b bytes more a_comment shut none = cut_slash-stays mode at bytes more shut none
cut_by-stays _ mode at b bytes more (no_token _ h) shut none = refl

-- What is cut where no gap is before it, and nothing longer begins, is cut alike from more bytes. If nothing is left,
-- no more follow.
cut_here-stays : (mode : Mode) (at : ℕ) (bytes more : List ℕ) → (bytes ≡ [] → more ≡ []) →
    (IsBeginning mode bytes → ⊥) →
    piece_len mode growing bytes ≡ 0 → cut_here mode at (bytes ++ more) ≡ cut_here mode at bytes
unfolding cut_here
cut_here-stays mode at [] more last shut none = rw (last refl)
cut_here-stays mode at (b ∷ bytes) more last shut none =
    cut_by-stays (start_of b) mode at b bytes more (start_of-begins b) shut none

-- The gap ends where that of the growing buffer does.
pub past_gap-stays : (buffer more : List ℕ) (position : ℕ) (mode : Mode) → position ≤ length buffer →
    (IsOpen buffer position mode → ⊥) →
    (drop (past_growing_gap buffer position mode) buffer ≡ [] → more ≡ []) →
    past_gap (buffer ++ more) position mode ≡ past_growing_gap buffer position mode
past_gap-stays buffer more position mode within shut last =
    let rest = drop position buffer in
    let behind = drop-drop (gap_len mode growing rest) position buffer in
    rw (drop-append-le position buffer more within)
    (ap (λ n. position + n) (gap_len-stays mode 0 rest more (λ e. last (sym behind ∙ e)) (λ i. shut (rw (← behind) i))))

-- What is cut where the buffer isn't open is cut after the gap of the growing buffer.
cut_as_growing : (buffer more : List ℕ) (position : ℕ) (mode : Mode) → position ≤ length buffer →
    (IsOpen buffer position mode → ⊥) →
    (drop (past_growing_gap buffer position mode) buffer ≡ [] → more ≡ []) →
    cut (buffer ++ more) position mode
    ≡ cut_here mode (past_growing_gap buffer position mode) (drop (past_growing_gap buffer position mode) buffer)
unfolding cut
cut_as_growing buffer more position mode within shut last =
    let rest = drop position buffer in
    let past = past_growing_gap buffer position mode in
    let inside : past ≤ length buffer = omega (arith, gap_len-bound mode growing rest, length-drop position buffer) in
    let none = rw (drop-drop (gap_len mode growing rest) position buffer) at (gap_len-ends mode growing rest) in
    ap (λ n. cut_here mode n (drop n (buffer ++ more))) (past_gap-stays buffer more position mode within shut last)
    ∙ ap (cut_here mode past) (drop-append-le past buffer more inside)
    ∙ cut_here-stays mode past (drop past buffer) more last shut none

-- Where nothing is left, nothing is cut.
nothing_here : (mode : Mode) (at : ℕ) (bytes : List ℕ) → bytes ≡ [] → cut_here mode at bytes ≡ nothing_left
unfolding cut_here
nothing_here mode at bytes e = rw e

-- What is cut where the buffer isn't open is cut alike from every longer buffer with that prefix.
pub cut_stays : CutStays
cut_stays buffer more position mode within shut some =
    let past = past_growing_gap buffer position mode in
    let here = rw append-nil at (cut_as_growing buffer [] position mode within shut (λ e. refl)) in
    let last : drop past buffer ≡ [] → more ≡ [] = λ e. absurd (some (here ∙ nothing_here mode past _ e)) in
    cut_as_growing buffer more position mode within shut last ∙ sym here
