-- A text that a string's content stands for is UTF-8.
use Rattle.std.specs.Prelude.{ℕ, IsUtf8, nat_le, nat_lt}
use Rattle.std.specs.Char.{encode_utf8, digit_value, IsScalar}
use Rattle.std.specs.Str.{is_utf8}
use Rattle.std.proofs.Common.{◌≡◌, ◌+◌, ◌*◌, ◌<◌, ◌≤◌, inl, inr, Bool, true, false, cond, ◌&&◌, List, Option, Some, None, refl, sym, ap, ◌∙◌, subst, arith, ltb-true, leb-true}
use Rattle.std.proofs.lemmas.Bool.{and_parts, cases_lt, agree_below, agree_below_at}
use Rattle.std.proofs.lemmas.Bool.Decides.{nat_tests}
use Rattle.std.proofs.lemmas.Str.{IsUtf8-nil, IsUtf8-append, IsUtf8-encode, is_utf8-from_IsUtf8}
use Rattle.facet_json_token.specs.Decode.{short_escape, is_hex, code_unit, is_high_surrogate, is_low_surrogate, surrogate_pair, Piece, itself, short, other, unit, pair, Decodes, empty, piece}
use Rattle.facet_json_token.specs.Decoded.{decoded}
use Rattle.facet_json_token.proofs.DecodeLaws.{decodes-decoded}
use Rattle.facet_json_token.proofs.EscapeSteps.{short_of-none}
use lib.Utf8.{scalar}

-- A character of ASCII is a scalar value.
ascii-scalar : (c : ℕ) → c < 128 → IsScalar c
ascii-scalar c small = grind (arith, nat_tests)

-- What four hexadecimal digits spell has sixteen bits.
unit-below : (a b c d u : ℕ) → code_unit a b c d ≡ Some u → u < 0x10000
unfolding code_unit
unit-below a b c d u e = by (is_hex a && is_hex b && is_hex c && is_hex d) refl e
  where
    value : ℕ
    value = digit_value a * 0x1000 + digit_value b * 0x100 + digit_value c * 0x10 + digit_value d

    by : (t : Bool) → (is_hex a && is_hex b && is_hex c && is_hex d) ≡ t → cond t (Some value) None ≡ Some u → u < 0x10000
    by true h k =
        let p = and_parts (is_hex a && is_hex b && is_hex c) (is_hex d) h in
        let q = and_parts (is_hex a && is_hex b) (is_hex c) p.0 in
        let r = and_parts (is_hex a) (is_hex b) q.0 in
        let is : value ≡ u = cc in
        omega (arith, is, ltb-true (digit_value a) 16 r.0, ltb-true (digit_value b) 16 r.1, ltb-true (digit_value c) 16 q.1, ltb-true (digit_value d) 16 p.1)
    by false h k = absurd (cc)

abbrev is_none_or_scalar : Option ℕ → Bool
is_none_or_scalar None = true
is_none_or_scalar (Some c) = scalar c

-- What escapes of ASCII stand for are scalar values.
ascii-stand : agree_below (λ b. is_none_or_scalar (short_escape b)) (λ _. true) 128 ≡ true
unfolding short_escape
ascii-stand = refl

short-scalar : (b c : ℕ) → short_escape b ≡ Some c → IsScalar c
short-scalar b c e = elim (cases_lt b 128) [
  | inl small ↦ sym (ap is_none_or_scalar e) ∙ agree_below_at (λ b. is_none_or_scalar (short_escape b)) (λ _. true) 128 b ascii-stand small
  | inr large ↦ let none = short_of-none b large in let some = rw e at none in absurd (cc)
]

-- A number of sixteen bits that is no surrogate is a scalar value.
unit-scalar : (u : ℕ) → u < 0x10000 → is_high_surrogate u ≡ false → is_low_surrogate u ≡ false → IsScalar u
unit-scalar u small high low = grind (arith, nat_tests)

beyond-scalar : (c : ℕ) → 0x10000 ≤ c → c < 0x110000 → IsScalar c
beyond-scalar c above below = grind (arith, nat_tests)

-- A pair of surrogates is one.
pair-scalar : (high low : ℕ) → is_high_surrogate high ≡ true → is_low_surrogate low ≡ true → IsScalar (surrogate_pair high low)
pair-scalar high low is_high is_low =
    let h = and_parts (nat_le 0xd800 high) (nat_lt high 0xdc00) is_high in
    let l = and_parts (nat_le 0xdc00 low) (nat_lt low 0xe000) is_low in
    let first = leb-true 0xd800 high h.0 in
    let second = ltb-true high 0xdc00 h.1 in
    let third = leb-true 0xdc00 low l.0 in
    let fourth = ltb-true low 0xe000 l.1 in
    beyond-scalar (surrogate_pair high low) (omega (arith, first, second, third, fourth)) (omega (arith, first, second, third, fourth))

-- A piece stands for a scalar value.
piece-scalar : (first : List ℕ) (c : ℕ) → Piece first c → IsScalar c
piece-scalar _ c (itself _ is ne) = is
piece-scalar _ c (short b _ is) = short-scalar b c is
piece-scalar _ c (other b ascii none ne) = ascii-scalar b (ltb-true b 0x80 ascii)
piece-scalar _ c (unit a b d e _ is high low) = unit-scalar c (unit-below a b d e c is) high low
piece-scalar _ _ (pair a b c d high e f g h low first is_high second is_low) = pair-scalar high low is_high is_low

decodes-IsUtf8 : (content t : List ℕ) → Decodes content t → IsUtf8 t
decodes-IsUtf8 _ _ empty = IsUtf8-nil
decodes-IsUtf8 _ _ (piece first others content c rest text is behind front whole) =
    subst IsUtf8 (sym whole) (IsUtf8-append (encode_utf8 c) rest (IsUtf8-encode c (piece-scalar first c is)) (decodes-IsUtf8 others rest behind))

pub decoded-utf8 : (content t : List ℕ) → decoded content ≡ Some t → is_utf8 t ≡ true
decoded-utf8 content t e = is_utf8-from_IsUtf8 t (decodes-IsUtf8 content t (decodes-decoded content t e))
