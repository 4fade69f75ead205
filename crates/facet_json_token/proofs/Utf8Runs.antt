-- Where a content is UTF-8, so is each run of it, and what stands after each piece.
use Rattle.std.proofs.Common.{◌≡◌, ℕ, ◌+◌, ◌-◌, ◌<◌, ◌≤◌, ◌⊎◌, inl, inr, Bool, true, false, ◌&&◌, List, [], ◌∷◌, length, take, drop, get_or, Some, refl, ap, ◌∙◌, arith}
use Rattle.std.specs.Prelude.{IsUtf8, slice_range}
use Rattle.std.proofs.lemmas.Bool.{cases_lt, and_parts}
use Rattle.std.proofs.lemmas.Bool.Decides.{nat_tests}
use Rattle.std.proofs.lemmas.List.{take-take}
use Rattle.std.proofs.lemmas.List.Edits.{length-between, get_or-between}
use Rattle.std.proofs.lemmas.Str.{IsUtf8-nil, IsUtf8-encode, IsUtf8-take, IsUtf8-drop, IsUtf8-between, IsCharBoundary-end, IsCharBoundary-before_ascii, IsCharBoundary-after_ascii, IsCharBoundary-from_take}
use Rattle.std.specs.Str.{IsCharBoundary}
use Rattle.facet_format.specs.Bytes.{backslash, lower_u}
use Rattle.facet_format.proofs.AsciiTexts.{ascii-before}
use Rattle.facet_json_token.specs.Decode.{short_escape, is_hex, code_unit, Piece, itself, short, other, unit, pair}
use Rattle.facet_json_token.specs.Decoded.{piece_at}
use Rattle.facet_json_token.specs.Quoted.{IsQuoted}
use Rattle.facet_json_token.proofs.DecodeLaws.{piece_at-begins}
use Rattle.facet_json_token.proofs.DecodeSteps.{range-drop}
use Rattle.facet_json_token.proofs.EscapeSteps.{short_of-none}

-- A byte with a short escape is ASCII.
short-ascii : (b c : ℕ) → short_escape b ≡ Some c → b < 128
short-ascii b c is = by (cases_lt b 128)
  where
    by : (b < 128) ⊎ (128 ≤ b) → b < 128
    by (inl h) = h
    by (inr h) = let none = short_of-none b h in let some = rw is at none in absurd (cc)

-- A hexadecimal digit is ASCII.
hex-ascii : (b : ℕ) → is_hex b ≡ true → b < 128
hex-ascii b h = grind (arith, nat_tests)

-- Four hexadecimal digits before text.
unit-cons : (a b c d u : ℕ) (l : List ℕ) → code_unit a b c d ≡ Some u → IsUtf8 l → IsUtf8 (a ∷ b ∷ c ∷ d ∷ l)
unfolding code_unit
unit-cons a b c d u l e is = by (is_hex a && is_hex b && is_hex c && is_hex d) refl
  where
    by : (t : Bool) → (is_hex a && is_hex b && is_hex c && is_hex d) ≡ t → IsUtf8 (a ∷ b ∷ c ∷ d ∷ l)
    by true h =
        let p = and_parts (is_hex a && is_hex b && is_hex c) (is_hex d) h in
        let q = and_parts (is_hex a && is_hex b) (is_hex c) p.0 in
        let r = and_parts (is_hex a) (is_hex b) q.0 in
        ascii-before a (b ∷ c ∷ d ∷ l) (hex-ascii a r.0) (ascii-before b (c ∷ d ∷ l) (hex-ascii b r.1)
        (ascii-before c (d ∷ l) (hex-ascii c q.1) (ascii-before d l (hex-ascii d p.1) is)))
    by false h = let none = rw h at e in absurd (cc)

-- A piece is text.
piece-IsUtf8 : (first : List ℕ) (c : ℕ) → Piece first c → IsUtf8 first
piece-IsUtf8 _ c (itself _ is ne) = IsUtf8-encode c is
piece-IsUtf8 _ v (short b _ is) =
    ascii-before backslash (b ∷ []) (omega arith) (ascii-before b [] (short-ascii b v is) IsUtf8-nil)
piece-IsUtf8 _ c (other b ascii none ne) =
    ascii-before backslash (b ∷ []) (omega arith) (ascii-before b [] (grind (arith, nat_tests)) IsUtf8-nil)
piece-IsUtf8 _ v (unit a b c d u is high low) =
    ascii-before backslash _ (omega arith) (ascii-before lower_u _ (omega arith) (unit-cons a b c d u [] is IsUtf8-nil))
piece-IsUtf8 _ v (pair a b c d high e f g h low is is_high same is_low) =
    let last = unit-cons e f g h low [] same IsUtf8-nil in
    let second = ascii-before backslash _ (omega arith) (ascii-before lower_u _ (omega arith) last) in
    ascii-before backslash _ (omega arith) (ascii-before lower_u _ (omega arith) (unit-cons a b c d high _ is second))

-- What stands after a piece of a text is text.
pub found-IsUtf8 : (buf : List ℕ) (stop end c n : ℕ) → stop + n ≤ end →
    piece_at (slice_range buf stop end) ≡ Some (c, n) → IsUtf8 (slice_range buf stop end) →
    IsUtf8 (slice_range buf (stop + n) end)
found-IsUtf8 buf stop end c n h found is =
    let l = slice_range buf stop end in
    let front = piece_at-begins l c n found in
    let seam = IsCharBoundary-from_take l n is front.within (piece-IsUtf8 (take n l) c front.is_piece) in
    rw (range-drop buf n stop end h) at (IsUtf8-drop l n is seam)

-- A run of a text up to a backslash or the end is text, and so is what follows.
pub run-IsUtf8 : (buf : List ℕ) (at stop end : ℕ) → at ≤ stop → stop ≤ end → end ≤ length buf →
    (stop < end → get_or buf stop 0 ≡ backslash) → IsUtf8 (slice_range buf at end) →
    IsUtf8 (slice_range buf at stop) × IsUtf8 (slice_range buf stop end)
run-IsUtf8 buf at stop end a b h ends is =
    let l = slice_range buf at end in
    let k = stop - at in
    let place : at + k ≡ stop = omega arith in
    let less : k ≤ end - at = omega arith in
    let cut : IsCharBoundary l k = seam (cases_lt stop end) in
    let front = rw (take-take k (end - at) (drop at buf) less) at (IsUtf8-take l k is cut) in
    let back = rw (range-drop buf k at end (omega arith), place) at (IsUtf8-drop l k is cut) in
    (front, back)
  where
    seam : (stop < end) ⊎ (end ≤ stop) → IsCharBoundary (slice_range buf at end) (stop - at)
    seam (inl lt) =
        let size = length-between buf at end h in
        let place : at + (stop - at) ≡ stop = omega arith in
        let byte : get_or (slice_range buf at end) (stop - at) 0 ≡ backslash =
        get_or-between buf at end (stop - at) 0 (omega arith) ∙ ap (λ n. get_or buf n 0) place ∙ ends lt in
        IsCharBoundary-before_ascii (slice_range buf at end) (stop - at) (omega arith) (omega arith)
    seam (inr le) =
        let size : length (slice_range buf at end) ≡ stop - at = omega (arith, length-between buf at end h) in
        rw (← size) (IsCharBoundary-end (slice_range buf at end))

-- What stands between two quotes of a text is text.
pub quoted-IsUtf8 : (buf : List ℕ) (start finish : ℕ) → IsQuoted buf start finish → IsUtf8 buf → IsUtf8 (slice_range buf start finish)
quoted-IsUtf8 buf start finish q is =
    let front = rw (← q.starts) at (IsCharBoundary-after_ascii buf q.opening is (omega (arith, q.starts, q.ordered, q.within)) (omega (arith, q.opens))) in
    IsUtf8-between buf start finish is q.ordered front (IsCharBoundary-before_ascii buf finish q.within (omega (arith, q.closes)))
