-- Where a run ends, of the bytes that do not pass p, seen sixteen bytes at a time.
use Rattle.std.proofs.Common.{◌≡◌, ℕ, ◌+◌, ◌<◌, ◌≤◌, Bool, false, not, inl, inr, List, length, map, drop, get_or, slice_get, Some, ap, ◌∙◌, sym, arith}
use Rattle.std.specs.List.{prefix_len}
use Rattle.std.proofs.lemmas.Bool.{cases_order}
use Rattle.std.proofs.lemmas.List.{get_or-drop, length-drop}
use Rattle.std.proofs.lemmas.List.Sums.{prefix_len-le-length, prefix_len_stops}
use Rattle.std.proofs.lemmas.Option.{slice_get_within, get_or_from_slice_get}
use Rattle.facet_format.proofs.Windows.{mask_stops, mask_within}
use lib.Lanes.{chunk, mask_l}
use lib.Count.{count_trailing_zeros}

-- The run from a place on ends where the one from the start on does.
abbrev pub SameRun : (p : ℕ → Bool) (bytes : List ℕ) (start place limit : ℕ) → Type 0
SameRun p bytes start place limit =
    record {
      ahead : start ≤ place;
      within : place ≤ limit;
      same : start + prefix_len (λ b. not (p b)) (drop start bytes) ≡ place + prefix_len (λ b. not (p b)) (drop place bytes);
    }

-- in a window with a bit the run ends at the first one
pub window-stops : (p : ℕ → Bool) (bytes : List ℕ) (at found : ℕ) → at + 16 ≤ length bytes → found ≡ mask_l (map p (chunk at 16 bytes)) → 0 < found →
    (prefix_len (λ b. not (p b)) (drop at bytes) ≡ count_trailing_zeros 64 found) × (count_trailing_zeros 64 found < 16)
window-stops p bytes at found room mask some =
    let bits : 0 < mask_l (map p (chunk at 16 bytes)) = omega (arith, mask) in
    let first = ap (count_trailing_zeros 64) mask in
    (mask_stops p bytes at 16 room (omega arith) bits ∙ sym first, omega (arith, first, mask_within p bytes at 16 room (omega arith) bits))

-- up to the end of the bytes the run is seen whole
pub end-of_run : (p : ℕ → Bool) (bytes : List ℕ) (at stop : ℕ) → at ≤ length bytes → stop ≤ length bytes → stop ≤ at + prefix_len (λ b. not (p b)) (drop at bytes) →
    (stop < length bytes → stop ≡ at + prefix_len (λ b. not (p b)) (drop at bytes)) → stop ≡ at + prefix_len (λ b. not (p b)) (drop at bytes)
end-of_run p bytes at stop room within run stops =
    elim (cases_order stop (length bytes)) [
      | inl e ↦ omega (arith, e, run, prefix_len-le-length (λ b. not (p b)) (drop at bytes), length-drop at bytes)
      | inr (inl l) ↦ stops l
      | inr (inr g) ↦ absurd (omega (arith, g, within))
    ]

-- The byte at which a run ends does not go on with it.
pub ends-run : (p : ℕ → Bool) (buffer : List ℕ) (from end b : ℕ) → end ≡ from + prefix_len p (drop from buffer) →
    slice_get buffer end ≡ Some b → p b ≡ false
ends-run p buffer from end b e h =
    let rest = drop from buffer in
    let k = prefix_len p rest in
    let room = slice_get_within buffer end b h in
    let here : get_or rest k b ≡ b =
    get_or-drop from buffer k b ∙ ap (λ n. get_or buffer n b) (sym e) ∙ get_or_from_slice_get buffer end b b h in
    ap p (sym here) ∙ prefix_len_stops p rest b (omega (arith, length-drop from buffer, e))
