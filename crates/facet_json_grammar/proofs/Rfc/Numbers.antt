-- What is written of a whole number is a number of RFC 8259.
use Rattle.std.proofs.Common.{◌≡◌, ℕ, ℤ, pos, negsuc, zero, suc, ◌+◌, ◌/◌, ◌%◌, ◌^◌, ◌<◌, ◌≤◌, true, nat_le, List, [], ◌∷◌, ◌++◌, decimal, refl, sym, ap, ◌∙◌, subst, arith, append-nil, le-leb, lt-ltb, leb-true}
use Rattle.std.specs.List.{list_all}
use Rattle.std.specs.Fmt.{signed_decimal}
use Rattle.std.proofs.lemmas.Bool.{and_parts, and_from}
use Rattle.std.proofs.lemmas.Bool.Decides.{nat_tests}
use Rattle.std.proofs.lemmas.List.Folds.{list_all-append}
use Rattle.std.proofs.lemmas.Fmt.{decimal_digit, decimal_by_steps_wide}
use Rattle.facet_format.specs.Bytes.{minus}
use Rattle.facet_json_token.specs.RfcNumber.{is_rfc_digit, AreRfcDigits, none, digit, SomeDigits, IsRfcMinus, IsRfcExponentSign, is_first_digit, IsRfcWhole, nought, IsRfcFraction, IsRfcExponent, IsRfcNumber}
use Rattle.facet_json_token.proofs.RfcNumbers.{are_digits}
use Rattle.facet_json_grammar.specs.AsRead.{FitsBits}
use Rattle.facet_json_grammar.specs.RfcText.{InUtf8}
use Rattle.facet_json_grammar.proofs.Scalars.DecimalDigits.{decimal-digits}
use Rattle.facet_json_grammar.proofs.Rfc.Encoded.{is_ascii, ascii, ascii-itself}

-- ---- digits

digit_of : (n : ℕ) → n < 10 → is_rfc_digit (48 + n) ≡ true
digit_of n small = and_from (nat_le 0x30 (48 + n)) _ (le-leb 0x30 (48 + n) (omega arith)) (le-leb (48 + n) 0x39 (omega arith))

digits-append : (a b : List ℕ) → AreRfcDigits a → AreRfcDigits b → AreRfcDigits (a ++ b)
digits-append _ b none q = q
digits-append _ b (digit c others is d) q = digit c (others ++ b) is (digits-append others b d q)

pub digits-ascii : (ds : List ℕ) → AreRfcDigits ds → list_all is_ascii ds ≡ true
digits-ascii _ none = refl
digits-ascii _ (digit c others is d) =
    let low = leb-true c 0x39 (and_parts (nat_le 0x30 c) (nat_le c 0x39) is).1 in
    and_from (is_ascii c) _ (lt-ltb c 0x80 (omega arith)) (digits-ascii others d)

-- ---- ASCII

ascii-append : (a b : List ℕ) → list_all is_ascii a ≡ true → list_all is_ascii b ≡ true → list_all is_ascii (a ++ b) ≡ true
ascii-append a b p q = list_all-append is_ascii a b ∙ and_from (list_all is_ascii a) (list_all is_ascii b) p q

some-ascii : (ds : List ℕ) → SomeDigits ds → list_all is_ascii ds ≡ true
some-ascii _ (SomeDigits.digits c others is d) = digits-ascii (c ∷ others) (digit c others is d)

minus-ascii : (sign : List ℕ) → IsRfcMinus sign → list_all is_ascii sign ≡ true
minus-ascii _ IsRfcMinus.absent = refl
minus-ascii _ IsRfcMinus.present = refl

whole-ascii : (ds : List ℕ) → IsRfcWhole ds → list_all is_ascii ds ≡ true
whole-ascii _ nought = refl
whole-ascii _ (IsRfcWhole.digits c others first d) =
    let is : is_rfc_digit c ≡ true = grind (arith, nat_tests) in digits-ascii (c ∷ others) (digit c others is d)

fraction-ascii : (fraction : List ℕ) → IsRfcFraction fraction → list_all is_ascii fraction ≡ true
fraction-ascii _ IsRfcFraction.absent = refl
fraction-ascii _ (IsRfcFraction.present digits d) = some-ascii digits d

sign-ascii : (sign : List ℕ) → IsRfcExponentSign sign → list_all is_ascii sign ≡ true
sign-ascii _ IsRfcExponentSign.absent = refl
sign-ascii _ IsRfcExponentSign.minus = refl
sign-ascii _ IsRfcExponentSign.plus = refl

exponent-ascii : (exponent : List ℕ) → IsRfcExponent exponent → list_all is_ascii exponent ≡ true
exponent-ascii _ IsRfcExponent.absent = refl
exponent-ascii _ (IsRfcExponent.present mark sign digits others is s d e) =
    let first : is_ascii mark ≡ true = grind (arith, nat_tests) in
    and_from (is_ascii mark) _ first (ap (list_all is_ascii) e ∙ ascii-append sign digits (sign-ascii sign s) (some-ascii digits d))

-- The characters of a number are ASCII.
pub number-ascii : (cs : List ℕ) → IsRfcNumber cs → list_all is_ascii cs ≡ true
number-ascii cs n =
    let front = ascii-append n.sign n.whole (minus-ascii n.sign n.is_minus) (whole-ascii n.whole n.is_whole) in
    let most = ascii-append (n.sign ++ n.whole) n.fraction front (fraction-ascii n.fraction n.is_fraction) in
    ap (list_all is_ascii) n.parts
    ∙ ascii-append (n.sign ++ n.whole ++ n.fraction) n.exponent most (exponent-ascii n.exponent n.is_exponent)

-- A number in UTF-8 is one as it stands.
pub number-itself : (bytes : List ℕ) → InUtf8 IsRfcNumber bytes → IsRfcNumber bytes
number-itself bytes n = subst IsRfcNumber (sym (ascii-itself n.characters (number-ascii n.characters n.such)) ∙ n.encoded) n.such

-- ---- no leading zero

-- digits of which the first is not 0
abbrev Leads : List ℕ → Type 0
Leads ds = (c : ℕ) × (others : List ℕ) × (is_first_digit c ≡ true) × AreRfcDigits others × (ds ≡ c ∷ others)

leads-decimal : (n : ℕ) → 0 < n → n < 10 ^ 64 → Leads (decimal n)
leads-decimal n some small = decimal_by_steps_wide (λ m ds. 0 < m → Leads ds) one more n small some
  where
    one : (m : ℕ) → m < 10 → 0 < m → Leads ((48 + m) ∷ [])
    one m l p =
        let first = and_from (nat_le 0x31 (48 + m)) _ (le-leb 0x31 (48 + m) (omega arith)) (le-leb (48 + m) 0x39 (omega arith)) in
        (48 + m, [], first, none, refl)

    more : (m : ℕ) (ds : List ℕ) → 10 ≤ m → (0 < m / 10 → Leads ds) → 0 < m → Leads (ds ++ ((48 + m % 10) ∷ []))
    more m ds l h p =
        let first = h (omega arith) in
        let last = digit (48 + m % 10) [] (digit_of (m % 10) (omega arith)) none in
        (first.0, first.1 ++ ((48 + m % 10) ∷ []), first.2, digits-append first.1 _ first.3 last, ap (λ l. l ++ ((48 + m % 10) ∷ [])) first.4)

whole-decimal : (n : ℕ) → n < 10 ^ 64 → IsRfcWhole (decimal n)
whole-decimal zero small = rw (decimal_digit 0 (omega arith)) nought
whole-decimal (suc n) small =
    let l = leads-decimal (suc n) (omega arith) small in rw l.4 (IsRfcWhole.digits l.0 l.1 l.2 l.3)

-- ---- whole numbers

whole_number : (sign whole : List ℕ) → IsRfcMinus sign → IsRfcWhole whole → IsRfcNumber (sign ++ whole)
whole_number sign whole is_minus is_whole = record {
  sign = sign;
  whole = whole;
  fraction = [];
  exponent = [];
  is_minus = is_minus;
  is_whole = is_whole;
  is_fraction = IsRfcFraction.absent;
  is_exponent = IsRfcExponent.absent;
  parts = simp append-nil;
}

-- What is written of a whole number is a number of RFC 8259.
pub number-decimal : (n : ℕ) → n < 10 ^ 64 → InUtf8 IsRfcNumber (decimal n)
number-decimal n small =
    ascii (decimal n) (digits-ascii _ (are_digits (decimal-digits n))) (whole_number [] (decimal n) IsRfcMinus.absent (whole-decimal n small))

-- So is what is written of a negative one.
pub number-negative : (n : ℕ) → n < 10 ^ 64 → InUtf8 IsRfcNumber (minus ∷ decimal n)
number-negative n small =
    ascii (minus ∷ decimal n) (digits-ascii _ (are_digits (decimal-digits n)))
    (whole_number (minus ∷ []) (decimal n) IsRfcMinus.present (whole-decimal n small))

-- So is what is written of a number with a sign.
pub number-signed : (bits : ℕ) (n : ℤ) → 2 ^ bits < 10 ^ 64 → FitsBits bits n → InUtf8 IsRfcNumber (signed_decimal n)
number-signed bits (pos n) few within = number-decimal n (omega arith)
number-signed bits (negsuc n) few within = number-negative (suc n) (omega arith)
