-- The number that is measured is a number, and the longest.
use Rattle.std.proofs.Common.{◌≡◌, ◌≢◌, ℕ, suc, ◌+◌, ◌≤◌, ◌<◌, Bool, true, false, cond, not, ◌==◌, ◌&&◌, ◌||◌, inl, inr, List, [], ◌∷◌, ◌++◌, length, take, drop, refl, sym, ap, ◌∙◌, subst, arith, length-append, append_assoc, take-add}
use Rattle.std.proofs.lemmas.Bool.{cond_both, eqb-true, leb-true, and_parts, and_from, or_cases, or_right, not-true, ne_eqb, cases_lt, eq-eqb, not_from_false, false_from_ne_true, both_ways}
use Rattle.std.proofs.lemmas.List.{append-nil, take_all, drop_at, length-take-le, nil_from_length}
use Rattle.facet_format.specs.Bytes.{is_digit, is_exponent_mark, is_sign, minus, dot, lower_e, upper_e, plus}
use Rattle.facet_format.specs.Number.{Hint, unsigned, signed, float, AreDigits, IsMinus, IsFraction, IsExponentSign, IsExponent, hint_by, IsNumeral, IsNumber}
use Rattle.facet_format.specs.NumberParts.{digits_len, minus_len, fraction_len, sign_len, exponent_len, parts, parts_len, parts_hint, is_bare, is_some_len, begins_number, is_number, same_hint}
use Rattle.facet_format.specs.Laws.{NumberIsLongest, NumberIsTested}
use Rattle.facet_format.proofs.NumberPrefixes.{parts_len-bound, parts-take, power_len, from_sign, from_digits, from_fraction, from_exponent, same_hint-refl, is_number-front}

-- ---- a number is measured as long as it is

-- A digit is within 0 and 9.
digit-is : (b : ℕ) → is_digit b ≡ true → (0x30 ≤ b) × (b ≤ 0x39)
digit-is b e = let both = and_parts _ _ e in (leb-true 0x30 b both.0, leb-true b 0x39 both.1)

-- A digit is no minus and no sign.
digit_no_minus : (b : ℕ) → is_digit b ≡ true → (b == minus) ≡ false
digit_no_minus b e = ne_eqb b minus (λ h. omega (arith, digit-is b e))

-- A digit is no plus.
digit_no_plus : (b : ℕ) → is_digit b ≡ true → (b == plus) ≡ false
digit_no_plus b e = ne_eqb b plus (λ h. omega (arith, digit-is b e))

-- A digit is no sign.
pub digit_no_sign : (b : ℕ) → is_digit b ≡ true → is_sign b ≡ false
digit_no_sign b e = rw (digit_no_minus b e, digit_no_plus b e) refl

-- An exponent mark is one of two letters.
mark-is : (b : ℕ) → is_exponent_mark b ≡ true → (P : ℕ → Type 0) → P lower_e → P upper_e → P b
mark-is b e P lower upper =
    elim (or_cases (b == lower_e) (b == upper_e) e)
    [ inl h ↦ subst P (sym (eqb-true b lower_e h)) lower | inr h ↦ subst P (sym (eqb-true b upper_e h)) upper ]

-- An exponent mark is no digit.
pub mark_no_digit : (b : ℕ) → is_exponent_mark b ≡ true → is_digit b ≡ false
mark_no_digit b e = mark-is b e (λ n. is_digit n ≡ false) refl refl

-- An exponent mark is no dot.
pub mark_no_dot : (b : ℕ) → is_exponent_mark b ≡ true → (b == dot) ≡ false
mark_no_dot b e = mark-is b e (λ n. (n == dot) ≡ false) refl refl

-- Digits are measured, and the digits after them.
pub digits_len-append : (digits rest : List ℕ) → AreDigits digits →
    digits_len (digits ++ rest) ≡ length digits + digits_len rest
digits_len-append _ rest AreDigits.none = omega arith
digits_len-append _ rest (AreDigits.digit b bytes e h) = rw e (ap suc (digits_len-append bytes rest h) ∙ omega arith)

-- Digits are measured as long as they are.
digits_len-is : (digits : List ℕ) → AreDigits digits → digits_len digits ≡ length digits
digits_len-is _ AreDigits.none = refl
digits_len-is _ (AreDigits.digit b bytes e h) = rw e (ap suc (digits_len-is bytes h))

-- No digit begins an exponent, or a fraction and an exponent.
digits_len-exponent : (exponent : List ℕ) (has : Bool) → IsExponent exponent has → digits_len exponent ≡ 0
digits_len-exponent _ _ IsExponent.absent = refl
digits_len-exponent _ _ (IsExponent.present mark sign digits e s d) = rw (mark_no_digit mark e) refl

-- No digit begins a fraction and an exponent.
digits_len-behind : (fraction exponent : List ℕ) (has_fraction has_exponent : Bool) →
    IsFraction fraction has_fraction → IsExponent exponent has_exponent → digits_len (fraction ++ exponent) ≡ 0
digits_len-behind _ exponent _ has IsFraction.absent e = digits_len-exponent exponent has e
digits_len-behind _ exponent _ has (IsFraction.present digits d) e = refl

-- A fraction is measured as long as it is where an exponent follows.
fraction_len-exponent : (exponent : List ℕ) (has : Bool) → IsExponent exponent has → fraction_len exponent ≡ 0
fraction_len-exponent _ _ IsExponent.absent = refl
fraction_len-exponent _ _ (IsExponent.present mark sign digits e s d) = rw (mark_no_dot mark e) refl

-- A fraction is measured as long as it is where an exponent follows.
fraction_len-is : (fraction exponent : List ℕ) (has_fraction has_exponent : Bool) → IsFraction fraction has_fraction →
    IsExponent exponent has_exponent → fraction_len (fraction ++ exponent) ≡ length fraction
fraction_len-is _ exponent _ has IsFraction.absent e = fraction_len-exponent exponent has e
fraction_len-is _ exponent _ has (IsFraction.present digits d) e =
    omega (arith, digits_len-append digits exponent d, digits_len-exponent exponent has e)

-- No sign begins digits.
sign_len-digits : (digits : List ℕ) → AreDigits digits → sign_len digits ≡ 0
sign_len-digits _ AreDigits.none = refl
sign_len-digits _ (AreDigits.digit b bytes e h) = rw (digit_no_sign b e) refl

-- A sign and digits are measured as long as they are.
power_len-is : (sign digits : List ℕ) → IsExponentSign sign → AreDigits digits →
    power_len (sign ++ digits) ≡ length (sign ++ digits)
power_len-is _ digits IsExponentSign.absent d =
    ap (λ n. n + digits_len (drop n digits)) (sign_len-digits digits d) ∙ omega (arith, digits_len-is digits d)
power_len-is _ digits (IsExponentSign.present b e) d =
    ap (λ t. cond t 1 0 + digits_len (drop (cond t 1 0) (b ∷ digits))) e ∙ omega (arith, digits_len-is digits d)

-- An exponent is measured as long as it is.
exponent_len-is : (exponent : List ℕ) (has : Bool) → IsExponent exponent has → exponent_len exponent ≡ length exponent
exponent_len-is _ _ IsExponent.absent = refl
exponent_len-is _ _ (IsExponent.present mark sign digits e s d) = rw e (ap suc (power_len-is sign digits s d))

-- A minus or nothing is measured as long as it is where a digit follows.
minus_len-digits : (digits rest : List ℕ) → AreDigits digits → digits ≢ [] → minus_len (digits ++ rest) ≡ 0
minus_len-digits _ rest AreDigits.none some = absurd (some refl)
minus_len-digits _ rest (AreDigits.digit b bytes e h) some = rw (digit_no_minus b e) refl

-- A minus or nothing is measured as long as it is where digits follow.
minus_len-is : (sign digits rest : List ℕ) (has : Bool) → IsMinus sign has → AreDigits digits → sign ++ digits ≢ [] →
    minus_len (sign ++ (digits ++ rest)) ≡ length sign
minus_len-is _ digits rest _ IsMinus.absent d some = minus_len-digits digits rest d some
minus_len-is _ digits rest _ IsMinus.present d some = refl

-- A numeral's parts are measured as long as they are where more follows, if that goes on with none of them.
pub parts-by : (bytes : List ℕ) (hint : Hint) (n : IsNumeral bytes hint) (rest : List ℕ) →
    digits_len (n.fraction ++ (n.exponent ++ rest)) ≡ 0 →
    fraction_len (n.fraction ++ (n.exponent ++ rest)) ≡ length n.fraction →
    exponent_len (n.exponent ++ rest) ≡ length n.exponent →
    parts (bytes ++ rest) ≡ from_exponent (length n.sign) (length n.digits) (length n.fraction) (length n.exponent)
unfolding parts
parts-by bytes hint n rest no_digit same_fraction same_exponent =
    let s = length n.sign in
    let d = length n.digits in
    let f = length n.fraction in
    let last = n.exponent ++ rest in
    let tail = n.fraction ++ last in
    let all = bytes ++ rest in
    let three : all ≡ n.sign ++ n.digits ++ n.fraction ++ last =
    ap (λ l. l ++ rest) n.whole ∙ append_assoc (n.sign ++ n.digits ++ n.fraction) n.exponent rest in
    let two : all ≡ n.sign ++ n.digits ++ tail = three ∙ append_assoc (n.sign ++ n.digits) n.fraction last in
    let one : all ≡ n.sign ++ (n.digits ++ tail) = two ∙ append_assoc n.sign n.digits tail in
    let at_digits : drop s all ≡ n.digits ++ tail = ap (drop s) one ∙ drop_at n.sign (n.digits ++ tail) s refl in
    let at_tail : drop (s + d) all ≡ tail =
    ap (drop (s + d)) two ∙ drop_at (n.sign ++ n.digits) tail (s + d) (length-append n.sign n.digits) in
    let long : length (n.sign ++ n.digits ++ n.fraction) ≡ s + d + f =
    omega (arith, length-append (n.sign ++ n.digits) n.fraction, length-append n.sign n.digits) in
    let at_exponent : drop (s + d + f) all ≡ last =
    ap (drop (s + d + f)) three ∙ drop_at (n.sign ++ n.digits ++ n.fraction) last (s + d + f) long in
    let is_sign : minus_len all ≡ s =
    ap minus_len one ∙ minus_len-is n.sign n.digits tail n.has_minus n.is_minus n.are_digits n.starts in
    let is_digits : digits_len (drop s all) ≡ d =
    ap digits_len at_digits ∙ digits_len-append n.digits tail n.are_digits ∙ omega (arith, no_digit) in
    let is_fraction : fraction_len (drop (s + d) all) ≡ f = ap fraction_len at_tail ∙ same_fraction in
    let is_exponent : exponent_len (drop (s + d + f) all) ≡ length n.exponent =
    ap exponent_len at_exponent ∙ same_exponent in
    ap (from_sign all) is_sign ∙ ap (from_digits all s) is_digits ∙ ap (from_fraction all s d) is_fraction
    ∙ ap (from_exponent s d f) is_exponent

-- A numeral's parts are measured as long as they are.
pub parts-is : (bytes : List ℕ) (hint : Hint) (n : IsNumeral bytes hint) →
    parts bytes ≡ from_exponent (length n.sign) (length n.digits) (length n.fraction) (length n.exponent)
parts-is bytes hint n =
    let alone : n.exponent ++ [] ≡ n.exponent = append-nil n.exponent in
    ap parts (sym (append-nil bytes))
    ∙ parts-by bytes hint n []
    (ap (λ l. digits_len (n.fraction ++ l)) alone
    ∙ digits_len-behind n.fraction n.exponent n.has_fraction n.has_exponent n.is_fraction n.is_exponent)
    (ap (λ l. fraction_len (n.fraction ++ l)) alone
    ∙ fraction_len-is n.fraction n.exponent n.has_fraction n.has_exponent n.is_fraction n.is_exponent)
    (ap exponent_len alone ∙ exponent_len-is n.exponent n.has_exponent n.is_exponent)

-- A numeral is measured as long as it is.
pub parts_len-is : (bytes : List ℕ) (hint : Hint) → IsNumeral bytes hint → parts_len (parts bytes) ≡ length bytes
parts_len-is bytes hint n =
    let long : length bytes ≡ length (n.sign ++ n.digits ++ n.fraction) + length n.exponent =
    ap length n.whole ∙ length-append (n.sign ++ n.digits ++ n.fraction) n.exponent in
    ap parts_len (parts-is bytes hint n)
    ∙ omega (arith, length-append (n.sign ++ n.digits) n.fraction, length-append n.sign n.digits)

-- What stands there has a length.
pub minus-some : (sign : List ℕ) (has : Bool) → IsMinus sign has → is_some_len (length sign) ≡ has
minus-some _ _ IsMinus.absent = refl
minus-some _ _ IsMinus.present = refl

-- A fraction that stands there has a length.
fraction-some : (fraction : List ℕ) (has : Bool) → IsFraction fraction has → is_some_len (length fraction) ≡ has
fraction-some _ _ IsFraction.absent = refl
fraction-some _ _ (IsFraction.present digits d) = refl

-- An exponent that stands there has a length.
exponent-some : (exponent : List ℕ) (has : Bool) → IsExponent exponent has → is_some_len (length exponent) ≡ has
exponent-some _ _ IsExponent.absent = refl
exponent-some _ _ (IsExponent.present mark sign digits e s d) = refl

-- A numeral's parts say its hint.
pub parts_hint-is : (bytes : List ℕ) (hint : Hint) → IsNumeral bytes hint → parts_hint (parts bytes) ≡ hint
parts_hint-is bytes hint n =
    ap parts_hint (parts-is bytes hint n)
    ∙ ap (λ m. hint_by m (is_some_len (length n.fraction)) (is_some_len (length n.exponent)))
    (minus-some n.sign n.has_minus n.is_minus)
    ∙ ap (λ f. hint_by n.has_minus f (is_some_len (length n.exponent)))
    (fraction-some n.fraction n.has_fraction n.is_fraction)
    ∙ ap (hint_by n.has_minus n.has_fraction) (exponent-some n.exponent n.has_exponent n.is_exponent)
    ∙ sym n.kind

-- What begins with digits begins a number.
begins-digits : (digits rest : List ℕ) → AreDigits digits → digits ≢ [] → begins_number (digits ++ rest) ≡ true
begins-digits _ rest AreDigits.none some = absurd (some refl)
begins-digits _ rest (AreDigits.digit b bytes e h) some = or_right (b == minus) (is_digit b) e

-- What begins with a minus or nothing, and digits, begins a number.
begins-sign : (sign digits rest : List ℕ) (has : Bool) → IsMinus sign has → AreDigits digits → sign ++ digits ≢ [] →
    begins_number (sign ++ (digits ++ rest)) ≡ true
begins-sign _ digits rest _ IsMinus.absent d some = begins-digits digits rest d some
begins-sign _ digits rest _ IsMinus.present d some = refl

-- A numeral begins with a minus or a digit.
pub begins_number-is : (bytes : List ℕ) (hint : Hint) → IsNumeral bytes hint → begins_number bytes ≡ true
begins_number-is bytes hint n =
    let tail = n.fraction ++ n.exponent in
    let whole : bytes ≡ n.sign ++ (n.digits ++ tail) =
    n.whole ∙ append_assoc (n.sign ++ n.digits) n.fraction n.exponent ∙ append_assoc n.sign n.digits tail in
    ap begins_number whole ∙ begins-sign n.sign n.digits tail n.has_minus n.is_minus n.are_digits n.starts

-- A sign alone is a minus.
minus-alone : (sign digits : List ℕ) (has : Bool) → IsMinus sign has → sign ++ digits ≢ [] → digits ≡ [] →
    sign ≡ minus ∷ []
minus-alone _ digits _ IsMinus.absent some e = absurd (some e)
minus-alone _ digits _ IsMinus.present some e = refl

-- A numeral that is measured no longer than its sign is a minus.
pub bare-minus : (bytes : List ℕ) (hint : Hint) → IsNumeral bytes hint → is_bare (parts bytes) ≡ true →
    bytes ≡ minus ∷ []
bare-minus bytes hint n e =
    let p = parts bytes in
    let long : parts_len p ≡ p.sign = eqb-true (parts_len p) p.sign e in
    let d : length n.digits ≡ 0 =
    omega (arith, long, ap (λ q. q.sign) (parts-is bytes hint n), ap parts_len (parts-is bytes hint n)) in
    let f : length n.fraction ≡ 0 =
    omega (arith, long, ap (λ q. q.sign) (parts-is bytes hint n), ap parts_len (parts-is bytes hint n)) in
    let x : length n.exponent ≡ 0 =
    omega (arith, long, ap (λ q. q.sign) (parts-is bytes hint n), ap parts_len (parts-is bytes hint n)) in
    let no_digits : n.digits ≡ [] = nil_from_length n.digits d in
    let no_fraction : n.fraction ≡ [] = nil_from_length n.fraction f in
    let no_exponent : n.exponent ≡ [] = nil_from_length n.exponent x in
    let whole : bytes ≡ n.sign ++ [] ++ [] ++ [] =
    n.whole ∙ ap (λ l. n.sign ++ l ++ n.fraction ++ n.exponent) no_digits
    ∙ ap (λ l. n.sign ++ [] ++ l ++ n.exponent) no_fraction ∙ ap (λ l. n.sign ++ [] ++ [] ++ l) no_exponent in
    whole ∙ simp append-nil (minus-alone n.sign n.digits n.has_minus n.is_minus n.starts no_digits)

-- A number is measured longer than its sign.
pub is_bare-number : (bytes : List ℕ) (hint : Hint) → IsNumber bytes hint → is_bare (parts bytes) ≡ false
is_bare-number bytes hint n =
    false_from_ne_true (is_bare (parts bytes)) (λ e. n.more (bare-minus bytes hint n.numeral e))

-- ---- what is measured is a number

-- A minus that is measured is one.
pub minus-taken : (bytes : List ℕ) → IsMinus (take (minus_len bytes) bytes) (is_some_len (minus_len bytes))
minus-taken [] = IsMinus.absent
minus-taken (b ∷ bytes) =
    cond_both (b == minus) 1 0 (λ n. IsMinus (take n (b ∷ bytes)) (is_some_len n))
    (λ e. subst (λ x. IsMinus (x ∷ []) true) (sym (eqb-true b minus e)) IsMinus.present) (λ e. IsMinus.absent)

-- Digits that are measured are digits.
pub digits-taken : (bytes : List ℕ) → AreDigits (take (digits_len bytes) bytes)
digits-taken [] = AreDigits.none
digits-taken (b ∷ bytes) =
    cond_both (is_digit b) (suc (digits_len bytes)) 0 (λ n. AreDigits (take n (b ∷ bytes)))
    (λ e. AreDigits.digit b _ e (digits-taken bytes)) (λ e. AreDigits.none)

-- A fraction that is measured is one.
fraction-taken : (bytes : List ℕ) → IsFraction (take (fraction_len bytes) bytes) (is_some_len (fraction_len bytes))
fraction-taken [] = IsFraction.absent
fraction-taken (b ∷ bytes) =
    cond_both (b == dot) (suc (digits_len bytes)) 0 (λ n. IsFraction (take n (b ∷ bytes)) (is_some_len n))
    (λ e. subst (λ x. IsFraction (x ∷ take (digits_len bytes) bytes) true) (sym (eqb-true b dot e))
    (IsFraction.present _ (digits-taken bytes)))
    (λ e. IsFraction.absent)

-- An exponent's sign that is measured is one.
pub sign-taken : (bytes : List ℕ) → IsExponentSign (take (sign_len bytes) bytes)
sign-taken [] = IsExponentSign.absent
sign-taken (b ∷ bytes) =
    cond_both (is_sign b) 1 0 (λ n. IsExponentSign (take n (b ∷ bytes))) (IsExponentSign.present b)
    (λ e. IsExponentSign.absent)

-- An exponent that is measured is one.
exponent-taken : (bytes : List ℕ) → IsExponent (take (exponent_len bytes) bytes) (is_some_len (exponent_len bytes))
exponent-taken [] = IsExponent.absent
exponent-taken (b ∷ bytes) =
    let s = sign_len bytes in
    let d = digits_len (drop s bytes) in
    cond_both (is_exponent_mark b) (suc (power_len bytes)) 0 (λ n. IsExponent (take n (b ∷ bytes)) (is_some_len n))
    (λ e. subst (λ l. IsExponent (b ∷ l) true) (sym (take-add s d bytes))
    (IsExponent.present b (take s bytes) (take d (drop s bytes)) e (sign-taken bytes)
    (digits-taken (drop s bytes))))
    (λ e. IsExponent.absent)

-- A minus or a digit is measured.
start-some : (b : ℕ) (bytes : List ℕ) (is_minus : Bool) → (b == minus) ≡ is_minus → (is_minus || is_digit b) ≡ true →
    0 < cond is_minus 1 0 + digits_len (drop (cond is_minus 1 0) (b ∷ bytes))
start-some b bytes true e h = omega arith
start-some b bytes false e h = rw h (omega arith)

-- What begins a number has a sign or digits.
parts-some : (bytes : List ℕ) → begins_number bytes ≡ true →
    0 < minus_len bytes + digits_len (drop (minus_len bytes) bytes)
parts-some [] h = cc
parts-some (b ∷ bytes) h = start-some b bytes (b == minus) refl h

-- What begins a number is measured.
pub parts_len-some : (bytes : List ℕ) → begins_number bytes ≡ true → 0 < parts_len (parts bytes)
unfolding parts
parts_len-some bytes h = omega (arith, parts-some bytes h)

-- The bytes that are measured are a numeral.
pub numeral-measured : (bytes : List ℕ) → begins_number bytes ≡ true → parts_len (parts bytes) ≡ length bytes →
    IsNumeral bytes (parts_hint (parts bytes))
unfolding parts
numeral-measured bytes begins long =
    let s = minus_len bytes in
    let d = digits_len (drop s bytes) in
    let f = fraction_len (drop (s + d) bytes) in
    let x = exponent_len (drop (s + d + f) bytes) in
    let two : take (s + d) bytes ≡ take s bytes ++ take d (drop s bytes) = take-add s d bytes in
    let three : take (s + d + f) bytes ≡ take (s + d) bytes ++ take f (drop (s + d) bytes) = take-add (s + d) f bytes in
    let four : take (s + d + f + x) bytes ≡ take (s + d + f) bytes ++ take x (drop (s + d + f) bytes) =
    take-add (s + d + f) x bytes in
    let all : take (s + d + f + x) bytes ≡ bytes = take_all (s + d + f + x) bytes (omega (arith, long)) in
    let front : s + d ≤ length bytes = omega (arith, long) in
    record {
      sign = take s bytes;
      digits = take d (drop s bytes);
      fraction = take f (drop (s + d) bytes);
      exponent = take x (drop (s + d + f) bytes);
      has_minus = is_some_len s;
      has_fraction = is_some_len f;
      has_exponent = is_some_len x;
      is_minus = minus-taken bytes;
      are_digits = digits-taken (drop s bytes);
      is_fraction = fraction-taken (drop (s + d) bytes);
      is_exponent = exponent-taken (drop (s + d + f) bytes);
      whole =
          sym all ∙ four
          ∙ ap (λ l. l ++ take x (drop (s + d + f) bytes)) (three ∙ ap (λ l. l ++ take f (drop (s + d) bytes)) two);
      starts =
          λ e. omega (arith, parts-some bytes begins, length-take-le (s + d) bytes front, ap length two, ap length e);
      kind = refl;
    }

-- Hints that are tested the same are.
same_hint-is : (a b : Hint) → same_hint a b ≡ true → a ≡ b
same_hint-is unsigned unsigned e = refl
same_hint-is signed signed e = refl
same_hint-is float float e = refl
same_hint-is _ _ e = cc

-- A minus alone is bare.
pub bare_minus-is : is_bare (parts (minus ∷ [])) ≡ true
unfolding parts
bare_minus-is = refl

-- What is tested to be a number is one.
pub is_number-sound : (bytes : List ℕ) (hint : Hint) → is_number bytes hint ≡ true → IsNumber bytes hint
is_number-sound bytes hint e =
    let p = parts bytes in
    let a =
    and_parts (begins_number bytes && not (is_bare p) && (parts_len p == length bytes))
    (same_hint (parts_hint p) hint) e in
    let b = and_parts (begins_number bytes && not (is_bare p)) (parts_len p == length bytes) a.0 in
    let c = and_parts (begins_number bytes) (not (is_bare p)) b.0 in
    let more : is_bare p ≡ false = not-true (is_bare p) c.1 in
    record {
      numeral = subst (IsNumeral bytes) (same_hint-is _ _ a.1) (numeral-measured bytes c.0 (eqb-true _ _ b.1));
      more = λ h. both_ways (is_bare p) more (ap (λ l. is_bare (parts l)) h ∙ bare_minus-is);
    }

-- A number is tested to be one.
pub is_number-complete : (bytes : List ℕ) (hint : Hint) → IsNumber bytes hint → is_number bytes hint ≡ true
is_number-complete bytes hint n =
    let p = parts bytes in
    let begins = begins_number-is bytes hint n.numeral in
    let more : is_bare p ≡ false = is_bare-number bytes hint n in
    let long : (parts_len p == length bytes) ≡ true =
    eq-eqb (parts_len p) (length bytes) (parts_len-is bytes hint n.numeral) in
    let same : same_hint (parts_hint p) hint ≡ true =
    ap (λ h. same_hint h hint) (parts_hint-is bytes hint n.numeral) ∙ same_hint-refl hint in
    and_from _ _ (and_from _ _ (and_from _ _ begins (not_from_false _ more)) long) same

-- ---- the laws

-- A text is tested to be a number exactly where it is one.
pub number_is_tested : NumberIsTested
number_is_tested text hint = (is_number-sound text hint, is_number-complete text hint)

-- A prefix that is a number is no longer than the number that is measured.
parts_len-longest : (bytes : List ℕ) (k : ℕ) (hint : Hint) → k ≤ length bytes → IsNumber (take k bytes) hint →
    k ≤ parts_len (parts bytes)
parts_len-longest bytes k hint h n =
    let m = parts_len (parts bytes) in
    let long : parts_len (parts (take k bytes)) ≡ k =
    parts_len-is (take k bytes) hint n.numeral ∙ length-take-le k bytes h in
    elim (cases_lt m k)
    [ inl short ↦ omega (arith, long, ap parts_len (parts-take k bytes (omega arith))) | inr enough ↦ enough ]

-- Where more than a minus stands, the number at the start is a number, and no longer prefix of the bytes is one.
pub number_is_longest : NumberIsLongest
number_is_longest bytes begins more =
    (parts_len-bound bytes, is_number-sound _ _ (is_number-front bytes begins more), parts_len-longest bytes)
