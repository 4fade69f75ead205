-- What is printed of a finite float is a number with a fraction or an exponent.
use Rattle.std.proofs.Common.{◌≡◌, ℕ, ◌<◌, ◌+◌, ◌-◌, ◌==◌, ◌&&◌, Bool, true, false, Some, List, [], ◌∷◌, ◌++◌, length, get_or, append-nil, refl, ap, sym, subst, ◌∙◌, arith, if◌then◌else◌}
use Rattle.std.specs.Char.{digit_value}
use Rattle.std.specs.Float.Numeral.{exponent_text}
use Rattle.std.specs.Fmt.{sign_text}
use Rattle.std.specs.Str.Parse.{AllDigits}
use Rattle.std.proofs.lemmas.Bool.Decides.{nat_tests}
use Rattle.std.proofs.lemmas.Bool.{and_from}
use Rattle.std.proofs.lemmas.List.{append_assoc, length-append, get_or-append-add}
use Rattle.std.proofs.lemmas.Str.Parse.{digit_from_value}
use Rattle.ryu.specs.Plain.{IsPlainNumber}
use Rattle.facet_format.specs.Bytes.{dot, is_digit, minus}
use Rattle.facet_format.specs.Number.{AreDigits, IsExponent, IsExponentSign, IsFraction, IsMinus, float, hint_by}
use Rattle.facet_format.specs.NumberParts.{is_number, minus_len}
use Rattle.facet_format.specs.NumberValue.{number, decimal}
use Rattle.facet_format.proofs.NumberLaws.{is_number-complete}
use Rattle.facet_format.proofs.OuterDigits.{outer-number}

-- ---- digits

value-is_digit : (b : ℕ) → digit_value b < 10 → is_digit b ≡ true
value-is_digit b small = let range = digit_from_value b small in grind (arith, nat_tests, range)

all-digits : (bytes : List ℕ) → AllDigits 10 bytes → AreDigits bytes
all-digits [] all = AreDigits.none
all-digits (b ∷ bytes) all = AreDigits.digit b bytes (value-is_digit b all.0) (all-digits bytes all.1)

-- ---- the parts

abbrev fraction_text : Bool → List ℕ → List ℕ
fraction_text point digits = if point then dot ∷ digits else []

abbrev has_exponent : List ℕ → Bool
has_exponent [] = false
has_exponent (_ ∷ _) = true

sign-is_minus : (negative : Bool) → IsMinus (sign_text negative) negative
sign-is_minus false = IsMinus.absent
sign-is_minus true = IsMinus.present

sign-is_exponent_sign : (negative : Bool) → IsExponentSign (sign_text negative)
sign-is_exponent_sign false = IsExponentSign.absent
sign-is_exponent_sign true = IsExponentSign.present minus refl

text-is_fraction : (point : Bool) (digits : List ℕ) → AreDigits digits → IsFraction (fraction_text point digits) point
text-is_fraction false digits are = IsFraction.absent
text-is_fraction true digits are = IsFraction.present digits are

text-is_exponent : (negative : Bool) (digits : List ℕ) → AreDigits digits → IsExponent (exponent_text negative digits) (has_exponent digits)
text-is_exponent negative [] are = IsExponent.absent
text-is_exponent negative (d ∷ ds) are = IsExponent.present _ (sign_text negative) (d ∷ ds) refl (sign-is_exponent_sign negative) are

-- A fraction or an exponent stands in it.
marked-float : (negative point : Bool) (exponent : List ℕ) → (point ≡ false → 0 < length exponent) →
    float ≡ hint_by negative point (has_exponent exponent)
marked-float negative true exponent marked = refl
marked-float negative false [] marked = absurd (omega (arith, marked refl))
marked-float negative false (_ ∷ _) marked = refl

marked-long : (point negative : Bool) (fraction exponent : List ℕ) → (point ≡ false → 0 < length exponent) →
    0 < length (fraction_text point fraction ++ exponent_text negative exponent)
marked-long true negative fraction exponent marked = omega arith
marked-long false negative fraction [] marked = absurd (omega (arith, marked refl))
marked-long false negative fraction (_ ∷ _) marked = omega arith

-- ---- the number

plain_is_number : (text : List ℕ) → IsPlainNumber text → is_number text float ≡ true
plain_is_number text (negative, p, is, plain) =
    let sign = sign_text negative in
    let fraction = fraction_text p.point p.fraction in
    let exponent = exponent_text p.exponent_negative p.exponent in
    let behind = fraction ++ exponent in
    let long = marked-long p.point p.exponent_negative p.fraction p.exponent plain.marked in
    let lengths = length-append sign (p.whole ++ behind) in
    let others = length-append p.whole behind in
    is_number-complete text float (record {
      numeral = record {
        sign = sign;
        digits = p.whole;
        fraction = fraction;
        exponent = exponent;
        has_minus = negative;
        has_fraction = p.point;
        has_exponent = has_exponent p.exponent;
        is_minus = sign-is_minus negative;
        are_digits = all-digits p.whole plain.well_formed.whole_digits;
        is_fraction = text-is_fraction p.point p.fraction (all-digits p.fraction plain.well_formed.fraction_digits);
        is_exponent = text-is_exponent p.exponent_negative p.exponent (all-digits p.exponent plain.well_formed.exponent_digits);
        whole = is ∙ sym (append_assoc (sign ++ p.whole) fraction exponent ∙ append_assoc sign p.whole behind);
        starts = λ e. omega (arith, plain.whole, length-append sign p.whole, ap length e);
        kind = marked-float negative p.point p.exponent plain.marked;
      };
      more = λ e. omega (arith, plain.whole, long, lengths, others, ap length is, ap length e);
    })

-- ---- its value

abbrev EndsInDigit : List ℕ → Type 0
EndsInDigit bytes = (0 < length bytes) × (is_digit (get_or bytes (length bytes - 1) 0) ≡ true)

digits-end : (b : ℕ) (bytes : List ℕ) → AllDigits 10 (b ∷ bytes) → is_digit (get_or (b ∷ bytes) (length bytes) 0) ≡ true
digits-end b [] all = value-is_digit b all.0
digits-end b (c ∷ bytes) all = digits-end c bytes all.1

ends-digits : (bytes : List ℕ) → 0 < length bytes → AllDigits 10 bytes → EndsInDigit bytes
ends-digits [] some all = absurd (omega (arith, some))
ends-digits (b ∷ bytes) some all =
    let place : length (b ∷ bytes) - 1 ≡ length bytes = omega arith in
    (some, ap (λ i. is_digit (get_or (b ∷ bytes) i 0)) place ∙ digits-end b bytes all)

ends-append : (xs ys : List ℕ) → EndsInDigit ys → EndsInDigit (xs ++ ys)
ends-append xs ys ends =
    let place : length (xs ++ ys) - 1 ≡ length xs + (length ys - 1) = omega (arith, length-append xs ys, ends.0) in
    (omega (arith, length-append xs ys, ends.0), ap (λ i. is_digit (get_or (xs ++ ys) i 0)) place ∙ ap is_digit (get_or-append-add xs ys (length ys - 1) 0) ∙ ends.1)

ends-exponent : (negative : Bool) (exponent : List ℕ) → 0 < length exponent → AllDigits 10 exponent → EndsInDigit (exponent_text negative exponent)
ends-exponent negative [] some all = absurd (omega (arith, some))
ends-exponent negative (d ∷ ds) some all = ends-append (101 ∷ sign_text negative) (d ∷ ds) (ends-digits (d ∷ ds) some all)

ends-behind : (point negative : Bool) (fraction exponent : List ℕ) → AllDigits 10 fraction → AllDigits 10 exponent → (point ≡ true → 0 < length fraction)
    → (point ≡ false → 0 < length exponent) → EndsInDigit (fraction_text point fraction ++ exponent_text negative exponent)
ends-behind point negative fraction (d ∷ ds) all more digits marked =
    ends-append (fraction_text point fraction) (exponent_text negative (d ∷ ds)) (ends-exponent negative (d ∷ ds) (omega arith) more)
ends-behind false negative fraction [] all more digits marked = absurd (omega (arith, marked refl))
ends-behind true negative fraction [] all more digits marked =
    subst EndsInDigit (sym (append-nil (dot ∷ fraction))) (ends-append (dot ∷ []) fraction (ends-digits fraction (digits refl) all))

begins-digit : (negative : Bool) (whole rest : List ℕ) → 0 < length whole → AllDigits 10 whole
    → is_digit (get_or (sign_text negative ++ (whole ++ rest)) (minus_len (sign_text negative ++ (whole ++ rest))) 0) ≡ true
begins-digit negative [] rest some all = absurd (omega (arith, some))
begins-digit true (d ∷ ds) rest some all = value-is_digit d all.0
begins-digit false (d ∷ ds) rest some all =
    let range = digit_from_value d all.0 in
    let other : (d == minus) ≡ false = grind (arith, nat_tests, range) in
    rw other (value-is_digit d all.0)

pub plain_has_value : (text : List ℕ) → IsPlainNumber text → number text float ≡ Some (decimal text)
plain_has_value text (negative, p, is, plain) =
    let behind = fraction_text p.point p.fraction ++ exponent_text p.exponent_negative p.exponent in
    let whole = sign_text negative ++ (p.whole ++ behind) in
    let ends = ends-append (sign_text negative) (p.whole ++ behind) (ends-append p.whole behind
    (ends-behind p.point p.exponent_negative p.fraction p.exponent plain.well_formed.fraction_digits plain.well_formed.exponent_digits plain.fraction plain.marked)) in
    let first = begins-digit negative p.whole behind plain.whole plain.well_formed.whole_digits in
    outer-number text (plain_is_number text (negative, p, is, plain))
    (subst (λ t. (is_digit (get_or t (minus_len t) 0) && is_digit (get_or t (length t - 1) 0)) ≡ true) (sym is)
    (and_from (is_digit (get_or whole (minus_len whole) 0)) (is_digit (get_or whole (length whole - 1) 0)) first ends.1))
