-- What stands at an offset is a number of RFC 8259: by its parts, or as digits of which the first is no 0.
use Rattle.std.proofs.Common.{◌≡◌, ◌≢◌, ℕ, suc, ◌+◌, ◌-◌, ◌<◌, ◌≤◌, true, List, ◌∷◌, [], ◌⊎◌, inl, inr, length, take, drop, get_or, slice_get, Some, sym, ap, subst, ◌∙◌, arith, length-take}
use Rattle.std.specs.Prelude.{slice_range}
use Rattle.std.proofs.lemmas.List.{get_or-take, get_or-drop}
use Rattle.facet_format.specs.Bytes.{minus}
use Rattle.facet_format.specs.NumberParts.{Parts, parts, parts_len}
use Rattle.facet_json_token.proofs.Offsets.{drop-at_byte}
use Rattle.facet_json_token.specs.RfcNumber.{SomeDigits, IsRfcMinus, IsRfcWhole, IsRfcNumber}
use Rattle.facet_json_token.specs.RfcNumberTest.{are_rfc_parts}
use Rattle.facet_json_token.proofs.RfcNumbers.{are_rfc_parts-sound, leads-by_no_zero, whole-rfc, some-length}

-- Where the parts of what stands there pass the tests, it is one, whatever follows.
pub parts-strict : (buffer : List ℕ) (at len : ℕ) (q : Parts) → q ≡ parts (drop at buffer) → len ≡ parts_len q →
    are_rfc_parts q (drop at buffer) ≡ true → IsRfcNumber (slice_range buffer at (at + len))
parts-strict buffer at len q same all e =
    let bytes = drop at buffer in
    let long : parts_len (parts bytes) ≡ (at + len) - at = omega (arith, all, ap parts_len same) in
    subst (λ k. IsRfcNumber (take k bytes)) long (are_rfc_parts-sound bytes (ap (λ p. are_rfc_parts p bytes) (sym same) ∙ e))

slice_first : (buffer : List ℕ) (from to : ℕ) → from < to → get_or (slice_range buffer from to) 0 0 ≡ get_or buffer from 0
slice_first buffer from to some =
    let here : from + 0 ≡ from = omega arith in
    get_or-take (to - from) (drop from buffer) 0 0 (omega arith) ∙ get_or-drop from buffer 0 0 ∙ ap (λ k. get_or buffer k 0) here

slice_shorter : (buffer : List ℕ) (from to : ℕ) → length (slice_range buffer from to) ≤ to - from
slice_shorter buffer from to = omega (arith, length-take (to - from) (drop from buffer))

digits-before : (buffer : List ℕ) (from to : ℕ) → SomeDigits (slice_range buffer from to) → from < to
digits-before buffer from to some = omega (arith, slice_shorter buffer from to, some-length (slice_range buffer from to) some)

-- Digits that are one or begin with another than 0 are a whole number.
digits-lead : (buffer : List ℕ) (from to : ℕ) → SomeDigits (slice_range buffer from to) →
    (to ≤ from + 1) ⊎ (get_or buffer from 0 ≢ 0x30) → IsRfcWhole (slice_range buffer from to)
digits-lead buffer from to some leads =
    let less = digits-before buffer from to some in
    leads-by_no_zero (slice_range buffer from to) some
    (elim leads [ inl one ↦ inl (omega (arith, slice_shorter buffer from to)) | inr other ↦ inr (λ e. other (sym (slice_first buffer from to less) ∙ e)) ])

-- Such digits are a number of RFC 8259.
pub unsigned-strict : (buffer : List ℕ) (at to : ℕ) → SomeDigits (slice_range buffer at to) →
    (to ≤ at + 1) ⊎ (get_or buffer at 0 ≢ 0x30) → IsRfcNumber (slice_range buffer at to)
unsigned-strict buffer at to some leads = whole-rfc [] (slice_range buffer at to) IsRfcMinus.absent (digits-lead buffer at to some leads)

-- After a minus they are one, too.
pub signed-strict : (buffer : List ℕ) (at to : ℕ) → slice_get buffer at ≡ Some minus → SomeDigits (slice_range buffer (at + 1) to) →
    (to ≤ at + 1 + 1) ⊎ (get_or buffer (at + 1) 0 ≢ 0x30) → IsRfcNumber (slice_range buffer at to)
signed-strict buffer at to here some leads =
    let less = digits-before buffer (at + 1) to some in
    let long : to - at ≡ suc (to - (at + 1)) = omega arith in
    let whole : slice_range buffer at to ≡ minus ∷ slice_range buffer (at + 1) to =
    ap (λ k. take k (drop at buffer)) long ∙ ap (take (suc (to - (at + 1)))) (drop-at_byte buffer at minus here) in
    subst IsRfcNumber (sym whole) (whole-rfc (minus ∷ []) (slice_range buffer (at + 1) to) IsRfcMinus.present (digits-lead buffer (at + 1) to some leads))
