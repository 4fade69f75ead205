-- The bytes of a buffer between two offsets.
use Rattle.std.proofs.Common.{◌≡◌, ℕ, ◌+◌, ◌-◌, ◌≤◌, ◌<◌, List, [], ◌∷◌, ◌++◌, length, take, drop, slice_get, Some, ap, sym, ◌∙◌, arith, take-add}
use Rattle.std.proofs.lemmas.List.{take-append-drop, drop-append-le, length-take-le, length-drop, drop-take, take_all}
use Rattle.std.proofs.lemmas.Option.{slice_get_within}
use Rattle.facet_json_token.proofs.Offsets.{drop-at_byte}

-- The bytes of the buffer from one offset up to another.
abbrev pub between : List ℕ → ℕ → ℕ → List ℕ
between buffer start at = drop start (take at buffer)

-- They are so many.
pub between-length : (buffer : List ℕ) (start at : ℕ) → at ≤ length buffer →
    length (between buffer start at) ≡ at - start
between-length buffer start at within = omega (arith, length-drop start (take at buffer), length-take-le at buffer within)

-- One byte more.
pub between-more : (buffer : List ℕ) (start at b : ℕ) → start ≤ at → slice_get buffer at ≡ Some b →
    between buffer start (at + 1) ≡ between buffer start at ++ b ∷ []
between-more buffer start at b order here =
    let room = slice_get_within buffer at b here in
    let one : take (at + 1) buffer ≡ take at buffer ++ b ∷ [] =
    take-add at 1 buffer ∙ ap (λ l. take at buffer ++ take 1 l) (drop-at_byte buffer at b here) in
    ap (drop start) one
    ∙ drop-append-le start (take at buffer) (b ∷ []) (omega (arith, length-take-le at buffer (omega arith)))

-- The first byte.
pub between-first : (buffer : List ℕ) (at b : ℕ) → slice_get buffer at ≡ Some b → between buffer at (at + 1) ≡ b ∷ []
between-first buffer at b here =
    drop-take at 1 buffer ∙ ap (take 1) (drop-at_byte buffer at b here)

-- Bytes that stand before others have the first byte of them all.
first-of_front : (bytes others rest : List ℕ) (b : ℕ) → b ∷ rest ≡ bytes ++ others → 0 < length bytes →
    bytes ≡ b ∷ drop 1 bytes
first-of_front [] others rest b e some = absurd (omega (arith, some))
first-of_front (x ∷ bytes) others rest b e some = let same : b ≡ x = cc in ap (λ v. v ∷ bytes) (sym same)

-- The first two.
pub between-two : (buffer : List ℕ) (at a b : ℕ) → slice_get buffer at ≡ Some a → slice_get buffer (at + 1) ≡ Some b →
    between buffer at (at + 2) ≡ a ∷ b ∷ []
between-two buffer at a b first second =
    let next : at + 2 ≡ (at + 1) + 1 = omega arith in
    ap (between buffer at) next ∙ between-more buffer at (at + 1) b (omega arith) second
    ∙ ap (λ l. l ++ b ∷ []) (between-first buffer at a first)

-- What stands from an offset on is what stands up to a later one, and the rest.
pub between-rest : (buffer : List ℕ) (start at : ℕ) → start ≤ at → at ≤ length buffer →
    drop start buffer ≡ between buffer start at ++ drop at buffer
between-rest buffer start at order within =
    ap (drop start) (sym (take-append-drop at buffer))
    ∙ drop-append-le start (take at buffer) (drop at buffer) (omega (arith, length-take-le at buffer within))

-- Up to the end it is all.
pub between-all : (buffer : List ℕ) (start at : ℕ) → length buffer ≤ at → between buffer start at ≡ drop start buffer
between-all buffer start at h = ap (drop start) (take_all at buffer h)

-- The byte at the first offset is the first of them.
pub between-starts : (buffer : List ℕ) (start at b : ℕ) → start < at → at ≤ length buffer →
    slice_get buffer start ≡ Some b → between buffer start at ≡ b ∷ drop 1 (between buffer start at)
between-starts buffer start at b order within here =
    first-of_front (between buffer start at) (drop at buffer) (drop (start + 1) buffer) b
    (sym (drop-at_byte buffer start b here) ∙ between-rest buffer start at (omega arith) within)
    (omega (arith, between-length buffer start at within))
