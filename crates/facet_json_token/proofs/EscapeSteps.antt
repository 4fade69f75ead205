-- What is found at a backslash goes by the bytes after it (specs/Decode.antt): the steps of a reader of escapes.
use Rattle.std.proofs.Common.{◌≡◌, ◌≢◌, ℕ, ◌+◌, ◌<◌, ◌≤◌, true, false, cond, List, [], ◌∷◌, length, drop, get_or, slice_get, Option, Some, None, refl, ap, ◌∙◌, arith}
use Rattle.std.specs.Char.{InScalarRange, OutOfScalarRange}
use Rattle.std.proofs.lemmas.Bool.{ne_eqb}
use Rattle.std.proofs.lemmas.Bool.Decides.{nat_tests}
use Rattle.facet_format.specs.declared.event.Span.{Span as RustSpan}
use Rattle.facet_format.specs.Bytes.{backslash, lower_u}
use Rattle.facet_format.specs.Complaint.{Complaint, refusal_at}
use Rattle.facet_format.specs.Span.{span_at}
use Rattle.facet_format.specs.Views.{span_of}
use Rattle.facet_json_token.specs.Decode.{short_escape, code_unit, is_high_surrogate, is_low_surrogate}
use Rattle.facet_json_token.specs.Decoded.{low_at, unit_of, unit_at, short_of, escape_at, piece_at}
use Rattle.facet_json_token.specs.Fault.{DecodeFault, decode_fault_at, ends_in_escape, ends_in_digits, not_digits, no_character}
use Rattle.facet_json_token.specs.FirstFault.{fault_of, digits_fault, pair_fault, unit_fault}
use Rattle.facet_json_token.proofs.DecodeLaws.{escape_at-short_of, escape_at-unit_of}

-- this is found at the start of the bytes, and this is their fault where nothing is found
abbrev pub Finds : List ℕ → Option (ℕ × ℕ) → DecodeFault → Type 0
Finds l found fault = (piece_at l ≡ found) × (fault_of l ≡ fault)

-- the number of the four digits from an offset on
abbrev pub unit_from : List ℕ → ℕ → Option ℕ
unit_from l from = code_unit (get_or l from 0) (get_or l (from + 1) 0) (get_or l (from + 2) 0) (get_or l (from + 3) 0)

-- A backslash, `u` and four digits at the start.
six_bytes : (l : List ℕ) → slice_get l 0 ≡ Some backslash → slice_get l 1 ≡ Some lower_u → 6 ≤ length l →
    l ≡ backslash ∷ lower_u ∷ get_or l 2 0 ∷ get_or l 3 0 ∷ get_or l 4 0 ∷ get_or l 5 0 ∷ drop 6 l
six_bytes [] h e long = cc
six_bytes (s ∷ []) h e long = cc
six_bytes (s ∷ t ∷ []) h e long = absurd (omega arith)
six_bytes (s ∷ t ∷ a ∷ []) h e long = absurd (omega arith)
six_bytes (s ∷ t ∷ a ∷ b ∷ []) h e long = absurd (omega arith)
six_bytes (s ∷ t ∷ a ∷ b ∷ c ∷ []) h e long = absurd (omega arith)
six_bytes (s ∷ t ∷ a ∷ b ∷ c ∷ d ∷ l) h e long = cc

-- A backslash and `u` are found by the number of the four digits after them.
piece_at-unit : (l : List ℕ) (o : Option ℕ) → slice_get l 0 ≡ Some backslash → slice_get l 1 ≡ Some lower_u →
    6 ≤ length l → unit_from l 2 ≡ o → piece_at l ≡ unit_of (drop 6 l) o
piece_at-unit l o h e long is =
    ap piece_at (six_bytes l h e long)
    ∙ escape_at-unit_of (get_or l 2 0) (get_or l 3 0) (get_or l 4 0) (get_or l 5 0) (drop 6 l) o is

-- A byte that is no ASCII has no escape.
pub short_of-none : (b : ℕ) → 0x80 ≤ b → short_of b (short_escape b) ≡ None
unfolding short_escape
short_of-none b high = grind (arith, nat_tests)

-- ---- faults

-- A refusal over some bytes.
pub told-over : (what : Complaint) (s : RustSpan) (offset len : ℕ) → s.offset ≡ offset → s.len ≡ len →
    refusal_at what (span_of s) ≡ refusal_at what (span_at offset len)
told-over what s offset len place size = rw (place, size) refl

-- Nothing is found at a backslash that is the last byte.
pub escape-lone : (l : List ℕ) → slice_get l 0 ≡ Some backslash → length l ≤ 1 →
    Finds l None (decode_fault_at ends_in_escape 0 1)
unfolding piece_at escape_at fault_of
escape-lone [] h e = cc
escape-lone (s ∷ []) h e = let is : s ≡ backslash = cc in rw is (refl, refl)
escape-lone (s ∷ t ∷ l) h e = absurd (omega arith)

-- A backslash and a byte other than `u` are found by that byte alone.
pub escape-short : (l : List ℕ) (b : ℕ) → slice_get l 0 ≡ Some backslash → slice_get l 1 ≡ Some b → b ≢ lower_u →
    Finds l (short_of b (short_escape b)) (decode_fault_at no_character 1 1)
unfolding fault_of
escape-short [] b h e ne = cc
escape-short (s ∷ []) b h e ne = cc
escape-short (s ∷ t ∷ l) b h e ne =
    let is : s ≡ backslash = cc in
    let same : t ≡ b = cc in
    let other = ne_eqb b lower_u ne in
    rw (is, same)
    (escape_at-short_of b l (short_escape b) refl other, ap (λ x. cond x (unit_fault l) (decode_fault_at no_character 1 1)) other)

-- Fewer than four bytes after a backslash and `u` are too few.
few_digits : (l : List ℕ) → length l < 4 →
    Finds (backslash ∷ lower_u ∷ l) None (decode_fault_at ends_in_digits 0 (length (backslash ∷ lower_u ∷ l)))
unfolding piece_at escape_at unit_at fault_of
few_digits [] short = (refl, refl)
few_digits (a ∷ []) short = (refl, refl)
few_digits (a ∷ b ∷ []) short = (refl, refl)
few_digits (a ∷ b ∷ c ∷ []) short = (refl, refl)
few_digits (a ∷ b ∷ c ∷ d ∷ l) short = absurd (omega arith)

-- The fault of a backslash and `u` goes by the number of the four digits after them.
fault_of-unit : (l : List ℕ) (o : Option ℕ) → slice_get l 0 ≡ Some backslash → slice_get l 1 ≡ Some lower_u →
    6 ≤ length l → unit_from l 2 ≡ o → fault_of l ≡ digits_fault (drop 6 l) o
unfolding fault_of
fault_of-unit l o h e long is = ap fault_of (six_bytes l h e long) ∙ ap (digits_fault (drop 6 l)) is

-- ---- a backslash and `u`, by the bytes after them: what is found, and the fault where nothing is

-- Fewer than four bytes are too few.
pub unit-cut : (l : List ℕ) → slice_get l 0 ≡ Some backslash → slice_get l 1 ≡ Some lower_u → length l < 6 →
    Finds l None (decode_fault_at ends_in_digits 0 (length l))
unit-cut [] h e short = cc
unit-cut (s ∷ []) h e short = cc
unit-cut (s ∷ t ∷ l) h e short =
    let first : s ≡ backslash = cc in let second : t ≡ lower_u = cc in rw (first, second) (few_digits l (omega arith))

-- Four bytes that are no digits stand for nothing.
pub unit-no_digits : (l : List ℕ) → slice_get l 0 ≡ Some backslash → slice_get l 1 ≡ Some lower_u → 6 ≤ length l →
    unit_from l 2 ≡ None → Finds l None (decode_fault_at not_digits 2 4)
unit-no_digits l h e long is = (piece_at-unit l None h e long is, fault_of-unit l None h e long is)

-- A number that is a character stands for it.
pub unit-scalar : (l : List ℕ) (u : ℕ) → slice_get l 0 ≡ Some backslash → slice_get l 1 ≡ Some lower_u → 6 ≤ length l →
    unit_from l 2 ≡ Some u → is_high_surrogate u ≡ false → InScalarRange u → piece_at l ≡ Some (u, 6)
unit-scalar l u h e long is high scalar =
    let low : is_low_surrogate u ≡ false = grind (arith, nat_tests) in
    let own : unit_of (drop 6 l) (Some u) ≡ Some (u, 6) = rw (high, low) refl in
    piece_at-unit l (Some u) h e long is ∙ own

-- The second half of a pair stands for nothing alone.
pub unit-low : (l : List ℕ) (u : ℕ) → slice_get l 0 ≡ Some backslash → slice_get l 1 ≡ Some lower_u → 6 ≤ length l →
    unit_from l 2 ≡ Some u → is_high_surrogate u ≡ false → u < 0x10000 → OutOfScalarRange u →
    Finds l None (decode_fault_at no_character 2 4)
unit-low l u h e long is high small out =
    let low : is_low_surrogate u ≡ true = grind (arith, nat_tests) in
    let own : unit_of (drop 6 l) (Some u) ≡ None = rw (high, low) refl in
    let fault : digits_fault (drop 6 l) (Some u) ≡ decode_fault_at no_character 2 4 = rw high refl in
    (piece_at-unit l (Some u) h e long is ∙ own, fault_of-unit l (Some u) h e long is ∙ fault)

-- The first half of a pair goes by what stands after it.
pub unit-high : (l : List ℕ) (u : ℕ) → slice_get l 0 ≡ Some backslash → slice_get l 1 ≡ Some lower_u → 6 ≤ length l →
    unit_from l 2 ≡ Some u → is_high_surrogate u ≡ true →
    Finds l (low_at u (drop 6 l)) (pair_fault (drop 6 l))
unit-high l u h e long is high =
    let own : unit_of (drop 6 l) (Some u) ≡ low_at u (drop 6 l) = rw high refl in
    let fault : digits_fault (drop 6 l) (Some u) ≡ pair_fault (drop 6 l) = rw high refl in
    (piece_at-unit l (Some u) h e long is ∙ own, fault_of-unit l (Some u) h e long is ∙ fault)
