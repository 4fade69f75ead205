-- Nothing is left exactly where only a gap is left.
use Rattle.std.proofs.Common.{get_or, ◌≡◌, ℕ, ◌≤◌, List, [], length, take, drop, inl, inr, ap, sym, subst, arith, length-drop}
use Rattle.std.proofs.lemmas.Bool.{cases_lt}
use Rattle.std.proofs.lemmas.List.{take_all, drop_all}
use Rattle.std.proofs.lemmas.Option.{slice_get-get_or}
use Rattle.facet_json_token.specs.Cut.{nothing_left, cut_here, past_gap, cut}
use Rattle.facet_json_token.specs.Gap.{Mode, whole, IsGap}
use Rattle.facet_json_token.specs.GapLen.{gap_len}
use Rattle.facet_json_token.proofs.FirstBytes.{cut_here-something}
use Rattle.facet_json_scan.specs.Laws.{EndIsGap}
use Rattle.facet_json_scan.proofs.GapIsLongest.{gap_is_longest}

-- A gap that is all of the bytes is measured as long as they are.
gap_is_all : (mode : Mode) (bytes : List ℕ) → IsGap mode whole bytes [] → length bytes ≤ gap_len mode whole bytes
gap_is_all mode bytes gap =
    let none = drop_all (length bytes) bytes (omega arith) in
    let all = take_all (length bytes) bytes (omega arith) in
    let here : IsGap mode whole (take (length bytes) bytes) (drop (length bytes) bytes) =
    subst (λ l. IsGap mode whole l (drop (length bytes) bytes)) (sym all) (subst (IsGap mode whole bytes) (sym none) gap) in
    (gap_is_longest mode whole bytes).2 (length bytes) (omega arith) here

-- Where a gap is as long as the bytes, they are one.
all_is_gap : (mode : Mode) (bytes : List ℕ) → length bytes ≤ gap_len mode whole bytes → IsGap mode whole bytes []
all_is_gap mode bytes long =
    let n = gap_len mode whole bytes in
    subst (IsGap mode whole bytes) (drop_all n bytes long)
    (subst (λ l. IsGap mode whole l (drop n bytes)) (take_all n bytes long) (gap_is_longest mode whole bytes).1)

-- After a gap that ends where the buffer does nothing is left.
nothing_past : (buffer : List ℕ) (position : ℕ) (mode : Mode) →
    length (drop position buffer) ≤ gap_len mode whole (drop position buffer) → cut buffer position mode ≡ nothing_left
unfolding cut cut_here
nothing_past buffer position mode long =
    let at = past_gap buffer position mode in
    let ends : length buffer ≤ at = omega (arith, length-drop position buffer) in
    ap (cut_here mode at) (drop_all at buffer ends)

-- Where nothing is left, the gap ends where the buffer does.
gap_to_end : (buffer : List ℕ) (position : ℕ) (mode : Mode) → cut buffer position mode ≡ nothing_left →
    length (drop position buffer) ≤ gap_len mode whole (drop position buffer)
unfolding cut
gap_to_end buffer position mode none =
    let at = past_gap buffer position mode in
    elim (cases_lt at (length buffer)) [
      | inl h ↦ absurd (cut_here-something mode buffer at (get_or buffer at 0) (slice_get-get_or buffer at 0 h) none)
      | inr h ↦ omega (arith, length-drop position buffer)
    ]

-- Nothing is left exactly where what is left is a gap.
pub end_is_gap : EndIsGap
end_is_gap buffer position mode = (
  λ gap. nothing_past buffer position mode (gap_is_all mode (drop position buffer) gap),
  λ none. all_is_gap mode (drop position buffer) (gap_to_end buffer position mode none),
)
