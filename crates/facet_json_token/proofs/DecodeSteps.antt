-- The steps of a reader that decodes run by run (specs/Decode.antt): what a run of plain bytes and an escape add to
-- a text. How it is refused stands in FaultSteps.antt.
use Rattle.std.proofs.Common.{◌≡◌, ℕ, ◌+◌, ◌-◌, ◌<◌, ◌≤◌, List, [], ◌∷◌, ◌++◌, length, take, drop, get_or, slice_get, Some, sym, ap, ◌∙◌, append_assoc, append-nil, arith}
use Rattle.std.specs.Prelude.{◌==◌, IsUtf8, slice_range}
use Rattle.std.specs.List.{list_any}
use Rattle.std.specs.Char.{encode_utf8}
use Rattle.std.proofs.lemmas.List.{take-append-drop, drop-drop, drop-take, take-take}
use Rattle.std.proofs.lemmas.List.Edits.{between_none, length-between, get_or-between}
use Rattle.std.proofs.lemmas.Option.{slice_get-get_or}
use Rattle.facet_format.specs.Bytes.{backslash}
use Rattle.facet_json_token.specs.Decode.{Decodes, empty, piece}
use Rattle.facet_json_token.specs.Decoded.{piece_at}
use Rattle.facet_json_token.proofs.DecodeLaws.{piece_at-begins, decodes-decoded}
use Rattle.facet_json_token.proofs.PlainText.{IsPlain, plain-parts, decoded-plain, EndsRun}

-- ---- places in a buffer

-- The bytes up to a place, and those from there on.
pub range-append : (buf : List ℕ) (at stop end : ℕ) → at ≤ stop → stop ≤ end →
    slice_range buf at end ≡ slice_range buf at stop ++ slice_range buf stop end
range-append buf at stop end a b =
    let m = drop at buf in
    let k = stop - at in
    let j = end - stop in
    let size : end - at ≡ k + j = omega arith in
    let place : at + k ≡ stop = omega arith in
    let less : k ≤ end - at = omega arith in
    let rest = drop k (take (end - at) m) in
    let moved = drop-drop k at buf ∙ ap (λ n. drop n buf) place in
    let last = ap (λ n. drop k (take n m)) size ∙ drop-take k j m ∙ ap (take j) moved in
    sym (take-append-drop k (take (end - at) m)) ∙ ap (λ l. l ++ rest) (take-take k (end - at) m less)
    ∙ ap (λ l. take k m ++ l) last

-- What is left of a range after some of its bytes.
pub range-drop : (buf : List ℕ) (n at end : ℕ) → at + n ≤ end →
    drop n (slice_range buf at end) ≡ slice_range buf (at + n) end
range-drop buf n at end h =
    let j = end - (at + n) in
    let size : end - at ≡ n + j = omega arith in
    ap (λ k. drop n (take k (drop at buf))) size ∙ drop-take n j (drop at buf) ∙ ap (take j) (drop-drop n at buf)

-- The first byte of a range.
pub range-first : (buf : List ℕ) (at end b : ℕ) → at < end → end ≤ length buf → get_or buf at 0 ≡ b →
    slice_get (slice_range buf at end) 0 ≡ Some b
range-first buf at end b lt h is =
    let some : 0 < length (slice_range buf at end) = omega (arith, length-between buf at end h) in
    let same : at + 0 ≡ at = omega arith in
    let byte = get_or-between buf at end 0 0 (omega arith) ∙ ap (λ n. get_or buf n 0) same ∙ is in
    slice_get-get_or (slice_range buf at end) 0 0 some ∙ ap Some byte

-- A range whose first byte is a backslash, if it has one, may stand after a run.
pub range-ends : (buf : List ℕ) (at end : ℕ) → end ≤ length buf → (at < end → get_or buf at 0 ≡ backslash) →
    EndsRun (slice_range buf at end)
range-ends buf at end h is some =
    let lt : at < end = omega (arith, length-between buf at end h) in
    let same : at + 0 ≡ at = omega arith in
    get_or-between buf at end 0 0 (omega arith) ∙ ap (λ n. get_or buf n 0) same ∙ is lt

-- No plain bytes begin with a backslash.
first-plain : (l : List ℕ) → slice_get l 0 ≡ Some backslash → IsPlain l → ⊥
first-plain [] e plain = cc
first-plain (b ∷ l) e plain = let is : b ≡ backslash = cc in let last = rw is at plain in cc

-- No plain range has a backslash inside.
pub backslash-inside : (buf : List ℕ) (at stop end : ℕ) → at ≤ stop → stop < end → end ≤ length buf →
    get_or buf stop 0 ≡ backslash → IsPlain (slice_range buf at end) → ⊥
backslash-inside buf at stop end a b h is plain =
    let whole = ap (list_any (λ x. x == backslash)) (sym (range-append buf at stop end a (omega arith))) ∙ plain in
    let parts = plain-parts (slice_range buf at stop) (slice_range buf stop end) whole in
    first-plain (slice_range buf stop end) (range-first buf stop end backslash b h is) parts.1

-- What is passed of a range is some bytes of it.
range-take : (buf : List ℕ) (n at end : ℕ) → at + n ≤ end → take n (slice_range buf at end) ≡ slice_range buf at (at + n)
range-take buf n at end h =
    let size : (at + n) - at ≡ n = omega arith in
    let less : n ≤ end - at = omega arith in
    take-take n (end - at) (drop at buf) less ∙ ap (λ k. take k (drop at buf)) (sym size)

-- ---- steps

-- Two contents, one after the other, stand for their texts.
decodes-append : (a b s t : List ℕ) → Decodes a s → Decodes b t → Decodes (a ++ b) (s ++ t)
decodes-append _ b _ t empty later = later
decodes-append _ b _ t (piece first others content c rest text is behind e f) later =
    let whole = ap (λ l. l ++ b) e ∙ append_assoc first others b in
    let said = ap (λ l. l ++ t) f ∙ append_assoc (encode_utf8 c) rest t in
    piece first (others ++ b) (content ++ b) c (rest ++ t) (text ++ t) is (decodes-append others b rest t behind later) whole said

-- Nothing is read of a content so far.
pub step-none : (buf : List ℕ) (start : ℕ) → Decodes (slice_range buf start start) []
step-none buf start = rw (between_none buf start) empty

-- A run of text is passed.
pub step-run : (buf out next run : List ℕ) (start at stop : ℕ) → start ≤ at → at ≤ stop →
    IsPlain (slice_range buf at stop) → (run ≡ slice_range buf at stop) × IsUtf8 (slice_range buf at stop) →
    next ≡ out ++ run → Decodes (slice_range buf start at) out → Decodes (slice_range buf start stop) next
step-run buf out next run start at stop a b plain is f so_far =
    let own = slice_range buf at stop in
    let both =
    decodes-append (slice_range buf start at) own out own so_far (decodes-decoded own own (decoded-plain own plain is.1)) in
    let pushed : out ++ own ≡ next = ap (λ l. out ++ l) (sym is.0) ∙ sym f in
    rw (← range-append buf start at stop a b, pushed) at both

-- A piece is passed.
pub step-found : (buf out next : List ℕ) (start stop end c n : ℕ) → start ≤ stop → stop + n ≤ end →
    piece_at (slice_range buf stop end) ≡ Some (c, n) → Decodes (slice_range buf start stop) out →
    next ≡ out ++ encode_utf8 c → Decodes (slice_range buf start (stop + n)) next
step-found buf out next start stop end c n a h found so_far f =
    let front = piece_at-begins (slice_range buf stop end) c n found in
    let own = rw (range-take buf n stop end h) at front.is_piece in
    let bytes = slice_range buf stop (stop + n) in
    let char = encode_utf8 c in
    let one =
    piece bytes [] bytes c [] char own empty (sym (append-nil bytes)) (sym (append-nil char)) in
    let both = decodes-append (slice_range buf start stop) bytes out char so_far one in
    rw (← range-append buf start stop (stop + n) a (omega arith), ← f) at both
