-- A run of bytes that are no backslash, up to a place within it, and the byte where it ends.
use Rattle.std.proofs.Common.{◌≡◌, ℕ, zero, suc, ◌+◌, ◌-◌, ◌<◌, ◌≤◌, Bool, true, false, not, ◌||◌, cond, List, [], ◌∷◌, length, take, drop, get_or, refl, sym, ap, ◌∙◌, arith}
use Rattle.std.specs.Prelude.{◌==◌, slice_range}
use Rattle.std.specs.List.{prefix_len, list_any}
use Rattle.std.proofs.lemmas.Bool.{eqb-true, not-false}
use Rattle.std.proofs.lemmas.List.{get_or-drop, length-drop}
use Rattle.std.proofs.lemmas.List.Sums.{prefix_len_stops}
use Rattle.facet_format.specs.Bytes.{backslash}
use Rattle.facet_json_token.specs.Inner.Run.{is_no_backslash}
use Rattle.facet_json_token.proofs.PlainText.{IsPlain}

-- No more bytes than the run has hold a backslash.
take-plain : (n : ℕ) (bytes : List ℕ) → n ≤ prefix_len is_no_backslash bytes → IsPlain (take n bytes)
take-plain zero bytes le = refl
take-plain (suc n) [] le = refl
take-plain (suc n) (b ∷ bytes) le = by (b == backslash) le (take-plain n bytes)
  where
    by : (t : Bool) → suc n ≤ cond (not t) (1 + prefix_len is_no_backslash bytes) 0 → (n ≤ prefix_len is_no_backslash bytes → IsPlain (take n bytes))
        → (t || list_any (λ x. x == backslash) (take n bytes)) ≡ false
    by false h rest = rest (omega arith)
    by true h rest = absurd (omega arith)

-- Up to a place within the run no backslash stands.
pub run-plain : (buf : List ℕ) (at stop : ℕ) → at ≤ stop → stop ≤ at + prefix_len is_no_backslash (drop at buf) → IsPlain (slice_range buf at stop)
run-plain buf at stop a b = take-plain (stop - at) (drop at buf) (omega arith)

-- Where the run ends within the bytes, a backslash stands.
pub run-stops : (buf : List ℕ) (at stop : ℕ) → stop ≡ at + prefix_len is_no_backslash (drop at buf) → stop < length buf → get_or buf stop 0 ≡ backslash
run-stops buf at stop e room =
    let rest = drop at buf in
    let k = prefix_len is_no_backslash rest in
    let here : get_or rest k 0 ≡ get_or buf stop 0 = get_or-drop at buf k 0 ∙ ap (λ n. get_or buf n 0) (sym e) in
    let fails = prefix_len_stops is_no_backslash rest 0 (omega (arith, length-drop at buf, e)) in
    eqb-true (get_or buf stop 0) backslash (not-false (get_or buf stop 0 == backslash) (ap is_no_backslash (sym here) ∙ fails))
