-- A number is one scalar's token before bytes that do not go on with it.
use Rattle.std.proofs.Common.{◌≡◌, ℕ, zero, suc, ◌+◌, Bool, true, false, ◌==◌, ◌||◌, List, [], ◌∷◌, ◌++◌, length, take, Some, refl, sym, ap, ◌∙◌}
use Rattle.std.specs.List.{list_all}
use Rattle.std.specs.Option.{option_map}
use Rattle.std.proofs.lemmas.Bool.{and_from, and_parts, both_ways, not-true, or_left, or_right}
use Rattle.std.proofs.lemmas.List.Folds.{list_all-append}
use Rattle.facet_format.specs.Bytes.{is_digit, dot, is_exponent_mark, is_sign}
use Rattle.facet_format.specs.Number.{Hint, AreDigits, IsMinus, IsFraction, IsExponentSign, IsExponent, IsNumeral}
use Rattle.facet_format.specs.NumberValue.{Number, number}
use Rattle.facet_format.specs.NumberParts.{is_number}
use Rattle.std.specs.Prelude.{slice_range}
use Rattle.facet_format.specs.Span.{Span, span_at}
use Rattle.facet_format.proofs.NumberLaws.{is_number-sound}
use Rattle.facet_format.proofs.NumberText.{number-none}
use Rattle.facet_json_token.specs.Shape.{IsLongest, IsShape}
use Rattle.facet_json_token.specs.Token as token
use Rattle.facet_json_token.specs.Token.{Token}
use Rattle.facet_json_token.proofs.RfcNumbers.{is_rfc-complete}
use Rattle.facet_json_grammar.specs.Language.{Rules, lenient_rules, strict_rules}
use Rattle.facet_json_grammar.specs.Meaning.{tree_of_number}
use Rattle.facet_json_grammar.specs.RfcText.{InUtf8}
use Rattle.facet_json_token.specs.RfcNumber.{IsRfcNumber}
use Rattle.facet_json_grammar.proofs.Rfc.Numbers.{number-itself}
use Rattle.facet_json_grammar.proofs.Scalars.OneToken.{in_numbers, ends_number, IsTokenBy, IsOneScalar}
use Rattle.facet_json_grammar.proofs.Cuts.ShapesBetween.{range-between, shape-is_cut}

-- ---- its bytes

-- All bytes are bytes of numbers.
abbrev AllInNumbers : List ℕ → Type 0
AllInNumbers bytes = list_all in_numbers bytes ≡ true

-- All bytes of two lists are such.
all-append : (a b : List ℕ) → AllInNumbers a → AllInNumbers b → AllInNumbers (a ++ b)
all-append a b p q = list_all-append in_numbers a b ∙ and_from (list_all in_numbers a) (list_all in_numbers b) p q

-- Digits are bytes of numbers, and so are the other parts of a number.
digits-in_numbers : (bytes : List ℕ) → AreDigits bytes → AllInNumbers bytes
digits-in_numbers _ AreDigits.none = refl
digits-in_numbers _ (AreDigits.digit b bytes is h) = rw is (digits-in_numbers bytes h)

minus-in_numbers : (bytes : List ℕ) (has : Bool) → IsMinus bytes has → AllInNumbers bytes
minus-in_numbers _ _ IsMinus.absent = refl
minus-in_numbers _ _ IsMinus.present = refl

fraction-in_numbers : (bytes : List ℕ) (has : Bool) → IsFraction bytes has → AllInNumbers bytes
fraction-in_numbers _ _ IsFraction.absent = refl
fraction-in_numbers _ _ (IsFraction.present digits are) = digits-in_numbers digits are

sign-in_numbers : (bytes : List ℕ) → IsExponentSign bytes → AllInNumbers bytes
sign-in_numbers _ IsExponentSign.absent = refl
sign-in_numbers _ (IsExponentSign.present b is) =
    and_from (in_numbers b) true (or_right (is_digit b || (b == dot) || is_exponent_mark b) (is_sign b) is) refl

exponent-in_numbers : (bytes : List ℕ) (has : Bool) → IsExponent bytes has → AllInNumbers bytes
exponent-in_numbers _ _ IsExponent.absent = refl
exponent-in_numbers _ _ (IsExponent.present mark sign digits is s are) =
    let first : in_numbers mark ≡ true =
    or_left (is_digit mark || (mark == dot) || is_exponent_mark mark) (is_sign mark)
    (or_right (is_digit mark || (mark == dot)) (is_exponent_mark mark) is) in
    and_from (in_numbers mark) (list_all in_numbers (sign ++ digits)) first
    (all-append sign digits (sign-in_numbers sign s) (digits-in_numbers digits are))

-- All bytes of a number are bytes of numbers.
numeral-in_numbers : (bytes : List ℕ) (hint : Hint) → IsNumeral bytes hint → AllInNumbers bytes
numeral-in_numbers bytes hint n =
    let whole = all-append n.sign n.digits (minus-in_numbers n.sign n.has_minus n.is_minus)
    (digits-in_numbers n.digits n.are_digits) in
    let with_fraction = all-append (n.sign ++ n.digits) n.fraction whole
    (fraction-in_numbers n.fraction n.has_fraction n.is_fraction) in
    ap (list_all in_numbers) n.whole
    ∙ all-append (n.sign ++ n.digits ++ n.fraction) n.exponent with_fraction
    (exponent-in_numbers n.exponent n.has_exponent n.is_exponent)

-- ---- its token

-- A number is the longest where no byte of numbers follows.
ends-longest : (text after : List ℕ) → ends_number after ≡ true → IsLongest text after
ends-longest text after ends zero hint is = refl
ends-longest text [] ends (suc n) hint is = refl
ends-longest text (b ∷ after) ends (suc n) hint is =
    let all = numeral-in_numbers (text ++ b ∷ take n after) hint is.numeral in
    let both = sym (list_all-append in_numbers text (b ∷ take n after)) ∙ all in
    let last = (and_parts (list_all in_numbers text) (list_all in_numbers (b ∷ take n after)) both).1 in
    let here = (and_parts (in_numbers b) (list_all in_numbers (take n after)) last).0 in
    absurd (both_ways (in_numbers b) (not-true (in_numbers b) ends) here)

-- What has a number's value is tested to be one.
valued-is_number : (bytes : List ℕ) (hint : Hint) (value : Number) → number bytes hint ≡ Some value →
    is_number bytes hint ≡ true
valued-is_number bytes hint value e = by (is_number bytes hint) refl
  where
    by : (t : Bool) → is_number bytes hint ≡ t → t ≡ true
    by true is = refl
    by false isnt = let none = number-none bytes hint isnt in cc

-- The number is one that these rules have.
abbrev pub IsNumberBy : Rules → List ℕ → Type 0
IsNumberBy lenient_rules bytes = Unit {0}
IsNumberBy strict_rules bytes = InUtf8 IsRfcNumber bytes

-- A number of RFC 8259 is one that either rules have.
pub number-by : (by : Rules) (bytes : List ℕ) → InUtf8 IsRfcNumber bytes → IsNumberBy by bytes
number-by lenient_rules bytes is = tt
number-by strict_rules bytes is = is

-- So is its token.
number_token-by : (by : Rules) (buffer bytes : List ℕ) (start finish : ℕ) (hint : Hint) (span : Span) → slice_range buffer start finish ≡ bytes →
    IsNumberBy by bytes → IsTokenBy by buffer (record { kind = token.number start finish hint; span = span })
number_token-by lenient_rules buffer bytes start finish hint span same is = tt
number_token-by strict_rules buffer bytes start finish hint span same is = rw (same, is_rfc-complete bytes (number-itself bytes is)) refl

-- A number with a value is one scalar's token, which means the value.
pub number-one_scalar : (by : Rules) (bytes : List ℕ) (hint : Hint) (value : Number) → IsNumberBy by bytes → number bytes hint ≡ Some value →
    IsOneScalar by bytes (tree_of_number value)
number-one_scalar by bytes hint value stands e before after ends =
    let at = length before in
    let kind = token.number at (at + length bytes) hint in
    let there = range-between before bytes after at (at + length bytes) refl refl in
    let is = is_number-sound bytes hint (valued-is_number bytes hint value e) in (
      record { kind = kind; span = span_at at (length bytes) },
      shape-is_cut before bytes after kind (IsShape.numeral bytes after hint is (ends-longest bytes after ends)),
      refl,
      ap (λ l. option_map tree_of_number (number l hint)) there ∙ ap (option_map tree_of_number) e,
      number_token-by by (before ++ bytes ++ after) bytes at (at + length bytes) hint (span_at at (length bytes)) there stands,
    )
