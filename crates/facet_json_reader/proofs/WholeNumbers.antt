-- Digits, perhaps after a minus, with neither a fraction nor an exponent after them are a number.
use Rattle.std.proofs.Common.{◌≡◌, ◌≢◌, ℕ, suc, ◌+◌, ◌-◌, ◌<◌, ◌≤◌, ◌^◌, true, false, cond, List, ◌∷◌, length, take, drop, get_or, slice_get, ℤ, pos, neg_ℤ, None, Some, refl, sym, ap, subst, ◌∙◌, arith}
use Rattle.std.specs.Prelude.{nat_lt, nat_le, slice_range, ◌==◌, ◌||◌}
use Rattle.std.proofs.lemmas.Bool.{ne_eqb, lt-ltb, le-leb, or_parts}
use Rattle.std.proofs.lemmas.List.{drop-drop, drop_more, take_rest}
use Rattle.std.proofs.lemmas.Option.{slice_get_within}
use Rattle.facet_format.specs.Bytes.{minus, dot, is_exponent_mark}
use Rattle.facet_format.specs.Event as event
use Rattle.facet_format.specs.Number.{AreDigits, Hint, unsigned, signed, hint_by}
use Rattle.facet_format.specs.NumberValue.{number, digits_value, unsigned_number, negative_number, u64, u128, i64, i128}
use Rattle.facet_format.specs.NumberParts.{Parts, is_some_len, minus_len, digits_len, sign_len, fraction_len, exponent_len, parts, parts_len, is_bare, is_number}
use Rattle.facet_format.proofs.NumberSteps.{PartsEnd-parts, PartsEnd-lengths}
use Rattle.facet_format.proofs.NumberText.{unsigned-digits, number-unsigned, number-signed, signed-digits}
use Rattle.facet_json_token.specs.Cut.{opens_number, start_of}
use Rattle.facet_json_token.specs.Gap.{plain}
use Rattle.facet_json_token.proofs.Offsets.{drop-at_byte}
use Rattle.facet_json_token.proofs.Starts.{start_of-number}
use Rattle.facet_json_token.proofs.SignedNumbers.{signed-sign}
use Rattle.facet_json_reader.proofs.TokensThere.{there-fits, number-cut}
use Rattle.facet_json_token.specs.RfcNumber.{SomeDigits}
use Rattle.facet_json_token.proofs.RfcNumbers.{some-taken}
use Rattle.facet_json_reader.specs.Inner.Whole.{IsWholeNumber}
use Rattle.facet_json_reader.specs.Values.{IsScalarThere}
use Rattle.facet_json_reader.proofs.DigitSlices.{back-slice}
use Rattle.facet_json_reader.proofs.ValuesThere.{number-there}

-- Where the byte after digits begins no other part, the digits are whole.
pub no-more_parts : (buffer : List ℕ) (at n : ℕ) → n ≡ digits_len (drop at buffer) → 0 < n → n < 16 → at + n < length buffer →
    ((get_or buffer (at + n) 0 == dot) || is_exponent_mark (get_or buffer (at + n) 0)) ≡ false → IsWholeNumber (drop at buffer) n
no-more_parts buffer at n digits some few room others =
    let b = get_or buffer (at + n) 0 in
    let neither = or_parts (b == dot) (is_exponent_mark b) others in
    let bytes : drop n (drop at buffer) ≡ b ∷ drop (at + n + 1) buffer = drop-drop n at buffer ∙ drop_more buffer (at + n) 0 room in
    let rest = drop (at + n + 1) buffer in
    record {
      digits = digits;
      no_fraction = ap fraction_len bytes ∙ ap (λ t. cond t (suc (digits_len rest)) 0) neither.0;
      no_exponent = ap exponent_len bytes ∙ ap (λ t. cond t (suc (sign_len rest + digits_len (drop (sign_len rest) rest))) 0) neither.1;
      some = some;
      few = few;
    }

-- Digits that are all of a number are some.
pub digits-some : (buffer : List ℕ) (at n finish : ℕ) → IsWholeNumber (drop at buffer) n → finish ≡ at + n → SomeDigits (slice_range buffer at finish)
digits-some buffer at n finish w ends =
    let long : digits_len (drop at buffer) ≡ finish - at = omega (arith, w.digits) in
    subst (λ k. SomeDigits (take k (drop at buffer))) long (some-taken (drop at buffer) (omega (arith, w.digits, w.some)))

-- the parts of such a number
abbrev whole_parts : ℕ → ℕ → Parts
whole_parts s n = record { sign = s; digits = n; fraction = 0; exponent = 0 }

-- They are the parts of what stands there.
parts-there : (buffer : List ℕ) (at s n start : ℕ) → start ≡ at + s → s ≡ minus_len (drop at buffer) → IsWholeNumber (drop start buffer) n →
    whole_parts s n ≡ parts (drop at buffer)
parts-there buffer at s n start from sign w =
    let end = start + n in
    let beyond : drop n (drop start buffer) ≡ drop end buffer = drop-drop n start buffer in
    let no_fraction : end ≡ end + fraction_len (drop end buffer) = omega (arith, ap fraction_len beyond, w.no_fraction) in
    let no_exponent : end ≡ end + exponent_len (drop end buffer) = omega (arith, ap exponent_len beyond, w.no_exponent) in
    let minus_ends : start ≡ at + minus_len (drop at buffer) = omega (arith, from, sign) in
    let ends = PartsEnd-parts buffer at start end end end minus_ends (ap (λ k. start + k) w.digits) no_fraction no_exponent in
    let one : start - at ≡ s = omega (arith, from) in
    let two : end - start ≡ n = omega arith in
    let none : end - end ≡ 0 = omega arith in
    rw (one, two, none) at (PartsEnd-lengths (parts (drop at buffer)) at start end end end ends)

module _ (buffer : List ℕ) (at b s n start len : ℕ) (hint : Hint) (here : slice_get buffer at ≡ Some b) (begins : start_of b ≡ opens_number)
    (from : start ≡ at + s) (long : len ≡ s + n) (sign : s ≡ minus_len (drop at buffer)) (w : IsWholeNumber (drop start buffer) n)
    (what : hint ≡ hint_by (is_some_len s) false false) where
  same : whole_parts s n ≡ parts (drop at buffer)
  same = parts-there buffer at s n start from sign w

  whole : len ≡ parts_len (whole_parts s n)
  whole = omega (arith, long)

  more : is_bare (whole_parts s n) ≡ false
  more = ne_eqb (parts_len (whole_parts s n)) s (λ (e : s + n + 0 + 0 ≡ s). omega (arith, w.some, e))

  is-number : is_number (slice_range buffer at (at + len)) hint ≡ true
  is-number =
      let is = number-cut plain buffer at b len (whole_parts s n) hint here begins same whole what more in
      let fits = there-fits plain buffer at len _ (omega (arith, slice_get_within buffer at b here)) is in
      fits.kind_fits.is_a_number

-- ---- digits alone

module _ (buffer : List ℕ) (at b n : ℕ) (here : slice_get buffer at ≡ Some b) (begins : start_of b ≡ opens_number) (no_minus : b ≢ minus)
    (w : IsWholeNumber (drop at buffer) n) where
  no-sign : 0 ≡ minus_len (drop at buffer)
  no-sign = sym (ap minus_len (drop-at_byte buffer at b here) ∙ ap (λ t. cond t 1 0) (ne_eqb b minus no_minus))

  is-unsigned : is_number (slice_range buffer at (at + n)) unsigned ≡ true
  is-unsigned = is-number buffer at b 0 n at n unsigned here begins (omega arith) (omega arith) no-sign w refl

  pub digits-alone : AreDigits (slice_range buffer at (at + n))
  digits-alone = unsigned-digits (slice_range buffer at (at + n)) is-unsigned

  pub digits-there : (m : ℕ) → m ≡ digits_value 0 (slice_range buffer at (at + n)) → m < 2 ^ 64 → IsScalarThere buffer at n (event.u64 m)
  digits-there m value fits =
      let text = slice_range buffer at (at + n) in
      let small : nat_lt m (2 ^ 64) ≡ true = lt-ltb m (2 ^ 64) fits in
      let means : number text unsigned ≡ Some (u64 m) =
      number-unsigned text is-unsigned ∙ ap unsigned_number (sym value)
      ∙ ap (λ t. cond t (Some (u64 m)) (cond (nat_lt m (2 ^ 128)) (Some (u128 m)) None)) small in
      number-there buffer at b n (whole_parts 0 n) unsigned (u64 m) (event.u64 m) here begins
      (parts-there buffer at 0 n at (omega arith) no-sign w) (omega arith) refl
      (ne_eqb (parts_len (whole_parts 0 n)) 0 (λ (e : 0 + n + 0 + 0 ≡ 0). omega (arith, w.some, e))) means (λ kind. refl)

-- ---- after a minus

module _ (buffer : List ℕ) (at n : ℕ) (here : slice_get buffer at ≡ Some minus) (w : IsWholeNumber (drop (at + 1) buffer) n) where
  sign-stands : 1 ≡ minus_len (drop at buffer)
  sign-stands = sym (ap minus_len (drop-at_byte buffer at minus here))

  begins : start_of minus ≡ opens_number
  begins = start_of-number minus refl

  is-signed : is_number (slice_range buffer at (at + (n + 1))) signed ≡ true
  is-signed = is-number buffer at minus 1 n (at + 1) (n + 1) signed here begins refl (omega arith) sign-stands w refl

  beyond-minus : slice_range buffer (at + 1) (at + 1 + n) ≡ take (length (slice_range buffer at (at + (n + 1))) - 1) (drop 1 (slice_range buffer at (at + (n + 1))))
  beyond-minus = back-slice buffer at 1 n (n + 1) (omega arith) ∙ sym (take_rest (slice_range buffer at (at + (n + 1))) 1)

  pub minus-digits : AreDigits (slice_range buffer (at + 1) (at + 1 + n))
  minus-digits =
      let text = slice_range buffer at (at + (n + 1)) in
      subst AreDigits (sym beyond-minus) (signed-digits text 1 (signed-sign text is-signed) is-signed)

  pub minus-there : (m : ℕ) (z : ℤ) → m ≡ digits_value 0 (slice_range buffer (at + 1) (at + 1 + n)) → z ≡ neg_ℤ (pos m) → m ≤ 2 ^ 63 →
      IsScalarThere buffer at (n + 1) (event.i64 z)
  minus-there m z value negative fits =
      let text = slice_range buffer at (at + (n + 1)) in
      let small : nat_le m (2 ^ 63) ≡ true = le-leb m (2 ^ 63) fits in
      let spelled : digits_value 0 (take (length text - 1) (drop 1 text)) ≡ m = sym (value ∙ ap (digits_value 0) beyond-minus) in
      let means : number text signed ≡ Some (i64 z) =
      number-signed text 1 (signed-sign text is-signed) is-signed
      ∙ ap negative_number spelled
      ∙ ap (λ t. cond t (Some (i64 (neg_ℤ (pos m)))) (cond (nat_le m (2 ^ 127)) (Some (i128 (neg_ℤ (pos m)))) None)) small
      ∙ ap (λ k. Some (i64 k)) (sym negative) in
      number-there buffer at minus (n + 1) (whole_parts 1 n) signed (i64 z) (event.i64 z) here begins
      (parts-there buffer at 1 n (at + 1) refl sign-stands w) (omega arith) refl
      (ne_eqb (parts_len (whole_parts 1 n)) 1 (λ (e : 1 + n + 0 + 0 ≡ 1). omega (arith, w.some, e))) means (λ kind. refl)
