-- The test finds the numbers of RFC 8259: what it accepts is one, and each one is accepted.
use Rattle.std.proofs.Common.{◌≡◌, ◌≢◌, ℕ, zero, suc, ◌+◌, ◌<◌, ◌≤◌, Bool, true, false, cond, ◌==◌, List, [], ◌∷◌, ◌++◌, ◌⊎◌, inl, inr, length, take, drop, get_or, refl, sym, ap, subst, ◌∙◌, arith, length-append, append_assoc, ltb-true, take-add, lt-ltb}
use Rattle.std.proofs.lemmas.Bool.{and_parts, and_from, eqb-true, ne_eqb}
use Rattle.std.proofs.lemmas.Bool.Decides.{nat_tests}
use Rattle.std.proofs.lemmas.List.{take_all, append-nil, drop_at}
use Rattle.facet_format.specs.Bytes.{is_sign, dot}
use Rattle.facet_format.specs.Number.{IsNumeral, hint_by}
use Rattle.facet_format.specs.NumberParts.{digits_len, minus_len, fraction_len, sign_len, exponent_len, parts, parts_len}
use Rattle.facet_format.specs.Number as numbers
use Rattle.facet_format.proofs.NumberLaws.{minus-taken, digits-taken, sign-taken, parts-is}
use Rattle.facet_json_token.specs.RfcNumber.{is_rfc_digit, is_first_digit, is_rfc_exponent_mark, AreRfcDigits, none, digit, SomeDigits, IsRfcMinus, IsRfcWhole, nought, IsRfcFraction, IsRfcExponentSign, IsRfcExponent, IsRfcNumber}
use Rattle.facet_json_token.specs.RfcNumberTest.{is_whole_of, is_fraction_of, is_exponent_of, are_rfc_parts, is_rfc_number}

-- ---- what the reader takes for digits and signs, and what RFC 8259 does

pub are_digits : {ds : List ℕ} → numbers.AreDigits ds → AreRfcDigits ds
are_digits numbers.none = none
are_digits (numbers.digit c others is d) = digit c others is (are_digits d)

pub digits_of_reader : {ds : List ℕ} → AreRfcDigits ds → numbers.AreDigits ds
digits_of_reader none = numbers.none
digits_of_reader (digit c others is d) = numbers.digit c others is (digits_of_reader d)

minus_is : {sign : List ℕ} {there : Bool} → numbers.IsMinus sign there → IsRfcMinus sign
minus_is numbers.IsMinus.absent = IsRfcMinus.absent
minus_is numbers.IsMinus.present = IsRfcMinus.present

minus_of_reader : {sign : List ℕ} → IsRfcMinus sign → (there : Bool) × numbers.IsMinus sign there
minus_of_reader IsRfcMinus.absent = (false, numbers.IsMinus.absent)
minus_of_reader IsRfcMinus.present = (true, numbers.IsMinus.present)

one-sign : (b : ℕ) → is_sign b ≡ true → (b ≡ 0x2d) ⊎ (b ≡ 0x2b)
one-sign b e = grind (arith, nat_tests)

sign_is : {sign : List ℕ} → numbers.IsExponentSign sign → IsRfcExponentSign sign
sign_is numbers.IsExponentSign.absent = IsRfcExponentSign.absent
sign_is (numbers.IsExponentSign.present b e) = elim (one-sign b e) [ inl m ↦ rw m IsRfcExponentSign.minus | inr p ↦ rw p IsRfcExponentSign.plus ]

sign_of_reader : {sign : List ℕ} → IsRfcExponentSign sign → numbers.IsExponentSign sign
sign_of_reader IsRfcExponentSign.absent = numbers.IsExponentSign.absent
sign_of_reader IsRfcExponentSign.minus = numbers.IsExponentSign.present 0x2d refl
sign_of_reader IsRfcExponentSign.plus = numbers.IsExponentSign.present 0x2b refl

-- ---- what is accepted is one

first_digit : (b : ℕ) → is_rfc_digit b ≡ true → (b == 0x30) ≡ false → is_first_digit b ≡ true
first_digit b d n = grind (arith, nat_tests)

-- Digits of which there are some.
pub some-taken : (bytes : List ℕ) → 0 < digits_len bytes → SomeDigits (take (digits_len bytes) bytes)
some-taken [] h = absurd (omega arith)
some-taken (b ∷ bytes) h = by (is_rfc_digit b) refl h
  where
    by : (is : Bool) → is_rfc_digit b ≡ is → 0 < cond is (suc (digits_len bytes)) 0 → SomeDigits (take (cond is (suc (digits_len bytes)) 0) (b ∷ bytes))
    by true e k = SomeDigits.digits b (take (digits_len bytes) bytes) e (are_digits (digits-taken bytes))
    by false e k = absurd (omega arith)

whole-of : (b : ℕ) (bytes : List ℕ) (n : ℕ) → is_rfc_digit b ≡ true → AreRfcDigits (take n bytes) → is_whole_of (suc n) (b ∷ bytes) ≡ true →
    IsRfcWhole (take (suc n) (b ∷ bytes))
whole-of b bytes zero d more e = by (b == 0x30) refl
  where
    by : (is : Bool) → (b == 0x30) ≡ is → IsRfcWhole (b ∷ [])
    by true z = let same : b ≡ 0x30 = eqb-true b 0x30 z in rw same nought
    by false z = IsRfcWhole.digits b [] (first_digit b d z) none
whole-of b bytes (suc n) d more e =
    let no : (b == 0x30) ≡ false = grind arith in
    IsRfcWhole.digits b (take (suc n) bytes) (first_digit b d no) more

whole-taken : (bytes : List ℕ) → is_whole_of (digits_len bytes) bytes ≡ true → IsRfcWhole (take (digits_len bytes) bytes)
whole-taken [] e = cc
whole-taken (b ∷ bytes) e = by (is_rfc_digit b) refl e
  where
    by : (is : Bool) → is_rfc_digit b ≡ is → is_whole_of (cond is (suc (digits_len bytes)) 0) (b ∷ bytes) ≡ true →
        IsRfcWhole (take (cond is (suc (digits_len bytes)) 0) (b ∷ bytes))
    by true d k = whole-of b bytes (digits_len bytes) d (are_digits (digits-taken bytes)) k
    by false d k = cc

fraction-of : (b : ℕ) (bytes : List ℕ) → b ≡ dot → is_fraction_of (suc (digits_len bytes)) ≡ true → IsRfcFraction (take (suc (digits_len bytes)) (b ∷ bytes))
fraction-of b bytes is e =
    let some : 0 < digits_len bytes = grind (arith, nat_tests) in
    rw is (IsRfcFraction.present (take (digits_len bytes) bytes) (some-taken bytes some))

fraction_taken : (bytes : List ℕ) → is_fraction_of (fraction_len bytes) ≡ true → IsRfcFraction (take (fraction_len bytes) bytes)
fraction_taken [] e = IsRfcFraction.absent
fraction_taken (b ∷ bytes) e = by (b == dot) refl e
  where
    by : (is : Bool) → (b == dot) ≡ is → is_fraction_of (cond is (suc (digits_len bytes)) 0) ≡ true →
        IsRfcFraction (take (cond is (suc (digits_len bytes)) 0) (b ∷ bytes))
    by true d k = fraction-of b bytes (eqb-true b dot d) k
    by false d k = IsRfcFraction.absent

exponent-of : (b : ℕ) (bytes : List ℕ) → is_rfc_exponent_mark b ≡ true →
    is_exponent_of (suc (sign_len bytes + digits_len (drop (sign_len bytes) bytes))) (b ∷ bytes) ≡ true →
    IsRfcExponent (take (suc (sign_len bytes + digits_len (drop (sign_len bytes) bytes))) (b ∷ bytes))
exponent-of b bytes m e =
    let s = sign_len bytes in
    let d = digits_len (drop s bytes) in
    let less = ltb-true s (s + d) e in
    let some : 0 < digits_len (drop s bytes) = omega arith in
    IsRfcExponent.present b (take s bytes) (take d (drop s bytes)) (take (s + d) bytes) m (sign_is (sign-taken bytes)) (some-taken (drop s bytes) some) (take-add s d bytes)

exponent_taken : (bytes : List ℕ) → is_exponent_of (exponent_len bytes) bytes ≡ true → IsRfcExponent (take (exponent_len bytes) bytes)
exponent_taken [] e = IsRfcExponent.absent
exponent_taken (b ∷ bytes) e = by (is_rfc_exponent_mark b) refl e
  where
    by : (is : Bool) → is_rfc_exponent_mark b ≡ is → is_exponent_of (cond is (suc (sign_len bytes + digits_len (drop (sign_len bytes) bytes))) 0) (b ∷ bytes) ≡ true →
        IsRfcExponent (take (cond is (suc (sign_len bytes + digits_len (drop (sign_len bytes) bytes))) 0) (b ∷ bytes))
    by true m k = exponent-of b bytes m k
    by false m k = IsRfcExponent.absent

-- Where the parts of what stands at the start pass the tests, that is a number of RFC 8259, whatever follows.
pub are_rfc_parts-sound : (text : List ℕ) → are_rfc_parts (parts text) text ≡ true → IsRfcNumber (take (parts_len (parts text)) text)
unfolding parts
are_rfc_parts-sound text e =
    let s = minus_len text in
    let d = digits_len (drop s text) in
    let f = fraction_len (drop (s + d) text) in
    let x = exponent_len (drop (s + d + f) text) in
    let tests = and_parts _ _ e in
    let front = and_parts _ _ tests.0 in
    let two : take (s + d) text ≡ take s text ++ take d (drop s text) = take-add s d text in
    let three : take (s + d + f) text ≡ take (s + d) text ++ take f (drop (s + d) text) = take-add (s + d) f text in
    let four : take (s + d + f + x) text ≡ take (s + d + f) text ++ take x (drop (s + d + f) text) = take-add (s + d + f) x text in
    record {
      sign = take s text;
      whole = take d (drop s text);
      fraction = take f (drop (s + d) text);
      exponent = take x (drop (s + d + f) text);
      is_minus = minus_is (minus-taken text);
      is_whole = whole-taken (drop s text) front.0;
      is_fraction = fraction_taken (drop (s + d) text) front.1;
      is_exponent = exponent_taken (drop (s + d + f) text) tests.1;
      parts = four ∙ ap (λ l. l ++ take x (drop (s + d + f) text)) (three ∙ ap (λ l. l ++ take f (drop (s + d) text)) two);
    }

-- What is accepted is a number of RFC 8259.
pub is_rfc-sound : (text : List ℕ) → is_rfc_number text ≡ true → IsRfcNumber text
unfolding is_rfc_number
is_rfc-sound text e =
    let tests = and_parts _ _ e in
    let long : parts_len (parts text) ≡ length text = eqb-true _ _ tests.0 in
    subst IsRfcNumber (take_all (parts_len (parts text)) text (omega (arith, long))) (are_rfc_parts-sound text tests.1)

-- Digits of which the first is no 0, or which are one, are a whole number.
pub leads-by_no_zero : (digits : List ℕ) → SomeDigits digits → (length digits ≤ 1) ⊎ (get_or digits 0 0 ≢ 0x30) → IsRfcWhole digits
leads-by_no_zero _ (SomeDigits.digits c [] is d) either = whole-of c [] 0 is none refl
leads-by_no_zero _ (SomeDigits.digits c (b ∷ others) is d) (inl one) = absurd (omega arith)
leads-by_no_zero _ (SomeDigits.digits c (b ∷ others) is d) (inr other) = IsRfcWhole.digits c (b ∷ others) (first_digit c is (ne_eqb c 0x30 other)) d

-- A whole number, perhaps after a minus, is a number of RFC 8259.
pub whole-rfc : (sign whole : List ℕ) → IsRfcMinus sign → IsRfcWhole whole → IsRfcNumber (sign ++ whole)
whole-rfc sign whole m w = record {
  sign = sign;
  whole = whole;
  fraction = [];
  exponent = [];
  is_minus = m;
  is_whole = w;
  is_fraction = IsRfcFraction.absent;
  is_exponent = IsRfcExponent.absent;
  parts = sym (append-nil (sign ++ whole ++ []) ∙ append-nil (sign ++ whole));
}

-- ---- each is accepted

whole-digits : (w : List ℕ) → IsRfcWhole w → numbers.AreDigits w
whole-digits _ nought = numbers.digit 0x30 [] refl numbers.none
whole-digits _ (IsRfcWhole.digits c others f d) = numbers.digit c others (grind (arith, nat_tests)) (digits_of_reader d)

some-digits : (ds : List ℕ) → SomeDigits ds → numbers.AreDigits ds
some-digits _ (SomeDigits.digits c others is d) = numbers.digit c others is (digits_of_reader d)

-- Digits of which there are some have a length.
pub some-length : (ds : List ℕ) → SomeDigits ds → 0 < length ds
some-length _ (SomeDigits.digits c others is d) = omega arith

fraction-is : {f : List ℕ} → (is : IsRfcFraction f) → (b : Bool) × numbers.IsFraction f b
fraction-is IsRfcFraction.absent = (false, numbers.IsFraction.absent)
fraction-is (IsRfcFraction.present digits d) = (true, numbers.IsFraction.present digits (some-digits digits d))

exponent-is : {x : List ℕ} → (is : IsRfcExponent x) → (b : Bool) × numbers.IsExponent x b
exponent-is IsRfcExponent.absent = (false, numbers.IsExponent.absent)
exponent-is (IsRfcExponent.present mark sign digits others m s d e) =
    (true, rw e (numbers.IsExponent.present mark sign digits m (sign_of_reader s) (some-digits digits d)))

starts-some : (sign whole : List ℕ) → IsRfcWhole whole → sign ++ whole ≡ [] → ⊥
starts-some [] _ nought e = cc
starts-some [] _ (IsRfcWhole.digits c others f d) e = cc
starts-some (b ∷ sign) whole w e = cc

numeral : (text : List ℕ) (n : IsRfcNumber text) → let m = minus_of_reader n.is_minus in let f = fraction-is n.is_fraction in let x = exponent-is n.is_exponent in
    IsNumeral text (hint_by m.0 f.0 x.0)
numeral text n =
    let m = minus_of_reader n.is_minus in
    let f = fraction-is n.is_fraction in
    let x = exponent-is n.is_exponent in
    record {
      sign = n.sign;
      digits = n.whole;
      fraction = n.fraction;
      exponent = n.exponent;
      has_minus = m.0;
      has_fraction = f.0;
      has_exponent = x.0;
      is_minus = m.1;
      are_digits = whole-digits n.whole n.is_whole;
      is_fraction = f.1;
      is_exponent = x.1;
      whole = n.parts;
      starts = starts-some n.sign n.whole n.is_whole;
      kind = refl;
    }

whole-tests : (whole rest : List ℕ) → IsRfcWhole whole → is_whole_of (length whole) (whole ++ rest) ≡ true
whole-tests _ rest nought = refl
whole-tests _ rest (IsRfcWhole.digits c [] f d) = refl
whole-tests _ rest (IsRfcWhole.digits c (b ∷ others) f d) = let no : (c == 0x30) ≡ false = grind (arith, nat_tests) in rw no refl

fraction-tests : (f : List ℕ) → IsRfcFraction f → is_fraction_of (length f) ≡ true
fraction-tests _ IsRfcFraction.absent = refl
fraction-tests _ (IsRfcFraction.present digits d) =
    let some = some-length digits d in grind (arith, nat_tests)

sign-measured : (sign digits : List ℕ) → IsRfcExponentSign sign → SomeDigits digits → sign_len (sign ++ digits) ≡ length sign
sign-measured _ _ IsRfcExponentSign.absent (SomeDigits.digits c others is d) = let no : is_sign c ≡ false = grind (arith, nat_tests) in rw no refl
sign-measured _ digits IsRfcExponentSign.minus d = refl
sign-measured _ digits IsRfcExponentSign.plus d = refl

exponent-tests : (x : List ℕ) → IsRfcExponent x → is_exponent_of (length x) x ≡ true
exponent-tests _ IsRfcExponent.absent = refl
exponent-tests _ (IsRfcExponent.present mark sign digits others m s d e) =
    let some = some-length digits d in
    let measured = ap sign_len e ∙ sign-measured sign digits s d in
    lt-ltb (sign_len others) (length others) (omega (arith, measured, ap length e, length-append sign digits, some))

-- Each number of RFC 8259 is accepted.
pub is_rfc-complete : (text : List ℕ) → IsRfcNumber text → is_rfc_number text ≡ true
unfolding is_rfc_number numeral
is_rfc-complete text n =
    let s = length n.sign in
    let d = length n.whole in
    let f = length n.fraction in
    let x = length n.exponent in
    let tail = n.fraction ++ n.exponent in
    let measured = parts-is text _ (numeral text n) in
    let one : text ≡ n.sign ++ (n.whole ++ tail) = n.parts ∙ append_assoc (n.sign ++ n.whole) n.fraction n.exponent ∙ append_assoc n.sign n.whole tail in
    let whole_there : drop s text ≡ n.whole ++ tail = ap (drop s) one ∙ drop_at n.sign (n.whole ++ tail) s refl in
    let front : length (n.sign ++ n.whole ++ n.fraction) ≡ s + d + f =
    omega (arith, length-append (n.sign ++ n.whole) n.fraction, length-append n.sign n.whole) in
    let exponent_there : drop (s + d + f) text ≡ n.exponent =
    ap (drop (s + d + f)) n.parts ∙ drop_at (n.sign ++ n.whole ++ n.fraction) n.exponent (s + d + f) front in
    let long : s + d + f + x ≡ length text =
    omega (arith, front, ap length n.parts, length-append (n.sign ++ n.whole ++ n.fraction) n.exponent) in
    let whole_is = ap (is_whole_of d) whole_there ∙ whole-tests n.whole tail n.is_whole in
    let exponent_is = ap (is_exponent_of x) exponent_there ∙ exponent-tests n.exponent n.is_exponent in
    let same_length : (s + d + f + x == length text) ≡ true = grind arith in
    rw measured (and_from _ _ same_length (and_from _ _ (and_from _ _ whole_is (fraction-tests n.fraction n.is_fraction)) exponent_is))
