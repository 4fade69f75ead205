-- What is written of a whole number, and the text of a decimal, is one scalar's token.
use Rattle.std.proofs.Common.{◌≡◌, ◌≢◌, ℕ, suc, ◌-◌, ◌^◌, ◌<◌, Bool, true, false, List, [], ◌∷◌, length, Some, ℤ, pos, negsuc, refl, ap, ◌∙◌, arith}
use Rattle.std.specs.Prelude.{nat_lt}
use Rattle.std.specs.Fmt.{decimal, signed_decimal}
use Rattle.std.specs.Str.Parse.{AllDigits}
use Rattle.std.proofs.lemmas.Bool.{ltb-true, ltb-false, lt-ltb, le-leb, lt-leb}
use Rattle.std.proofs.lemmas.Fmt.{decimal_is_IsNumeral_wide}
use Rattle.std.proofs.lemmas.List.{take_all}
use Rattle.std.proofs.lemmas.Str.Parse.{IsNumeralModel, tells_digits, numerals_by_fold}
use Rattle.facet_format.specs.Bytes.{minus}
use Rattle.facet_format.specs.Number.{unsigned, signed, float, AreDigits}
use Rattle.facet_format.specs.NumberValue.{Number, digits_value, unsigned_number, negative_number, number}
use Rattle.facet_format.specs.NumberParts.{parts}
use Rattle.facet_format.specs.NumberValue as numbers
use Rattle.facet_format.proofs.DigitNumbers.{digits-number, minus-number}
use Rattle.facet_format.proofs.NumberLaws.{is_number-complete}
use Rattle.facet_format.proofs.NumberText.{number-unsigned, number-signed}
use Rattle.facet_json_grammar.specs.Meaning.{tree_of_number}
use Rattle.facet_json_grammar.specs.Tree as trees
use Rattle.facet_json_grammar.specs.AsRead.{whole_number, FitsBits}
use Rattle.facet_json_grammar.specs.Language.{Rules}
use Rattle.facet_json_grammar.proofs.Rfc.Numbers.{number-decimal, number-negative}
use Rattle.facet_json_grammar.proofs.Scalars.DecimalDigits.{decimal-digits}
use Rattle.facet_json_grammar.proofs.Scalars.Numbers.{IsNumberBy, number-by, number-one_scalar}
use Rattle.facet_json_grammar.proofs.Scalars.OneToken.{IsOneScalar}

-- ---- digits

-- The value of digits is the value that they have for the standard library.
own_value : IsNumeralModel (AllDigits 10) (digits_value 0)
own_value = numerals_by_fold (AllDigits 10) tells_digits digits_value (record { empty = λ n. refl; more = λ n c cs is. refl })

-- What is written of a number spells it.
decimal-value : (n : ℕ) → n < 10 ^ 64 → digits_value 0 (decimal n) ≡ n
decimal-value n h =
    let is = decimal_is_IsNumeral_wide n h in own_value.same (decimal n) is.0.1 ∙ is.1

-- It is not empty.
decimal-some : (n : ℕ) → n < 10 ^ 64 → decimal n ≢ []
decimal-some n h e = omega (arith, (decimal_is_IsNumeral_wide n h).0.0, ap length e)

-- ---- numbers

-- Digits have the value that they spell.
digits-have_value : (bytes : List ℕ) → AreDigits bytes → bytes ≢ [] →
    number bytes unsigned ≡ unsigned_number (digits_value 0 bytes)
digits-have_value bytes are some =
    number-unsigned bytes (is_number-complete bytes unsigned (digits-number bytes are some))

-- A minus before digits is measured.
minus-sign : (bytes : List ℕ) → 1 ≡ (parts (minus ∷ bytes)).sign
unfolding parts
minus-sign bytes = refl

-- After a minus they have the negative value.
minus-has_value : (bytes : List ℕ) → AreDigits bytes → bytes ≢ [] →
    number (minus ∷ bytes) signed ≡ negative_number (digits_value 0 bytes)
minus-has_value bytes are some =
    let all = minus ∷ bytes in
    number-signed all 1 (minus-sign bytes) (is_number-complete all signed (minus-number bytes are some))
    ∙ ap (λ l. negative_number (digits_value 0 l)) (take_all (length all - 1) bytes (omega arith))

-- ---- what they are read as

-- The value of a number, and what it is read as.
abbrev MeansWhole : ℤ → Number → Type 0
MeansWhole z value = tree_of_number value ≡ whole_number z

-- A number within 128 bits has a value, which is read as the whole number.
unsigned-value : (n : ℕ) → n < 2 ^ 128 → (value : Number) × (unsigned_number n ≡ Some value) × MeansWhole (pos n) value
unsigned-value n h = by (nat_lt n (2 ^ 64)) refl
  where
    by : (t : Bool) → nat_lt n (2 ^ 64) ≡ t → (value : Number) × (unsigned_number n ≡ Some value) × MeansWhole (pos n) value
    by true e = (numbers.u64 n, rw e refl, rw e refl)
    by false e = (numbers.u128 n, rw (e, lt-ltb n (2 ^ 128) h) refl, rw e refl)

-- So has a negative one.
negative-value : (n : ℕ) → n < 2 ^ 127 →
    (value : Number) × (negative_number (suc n) ≡ Some value) × MeansWhole (negsuc n) value
negative-value n h = by (nat_lt n (2 ^ 63)) refl
  where
    by : (t : Bool) → nat_lt n (2 ^ 63) ≡ t →
        (value : Number) × (negative_number (suc n) ≡ Some value) × MeansWhole (negsuc n) value
    by true e =
        let small = ltb-true n (2 ^ 63) e in
        (numbers.i64 (negsuc n), rw (le-leb (suc n) (2 ^ 63) (omega arith)) refl, rw e refl)
    by false e =
        let large = ltb-false n (2 ^ 63) e in (
          numbers.i128 (negsuc n),
          rw (lt-leb (suc n) (2 ^ 63) (omega arith), le-leb (suc n) (2 ^ 127) (omega arith)) refl,
          rw e refl,
        )

-- ---- the tokens

-- What is written of a number within 128 bits is one scalar's token.
pub decimal-one_scalar : (by : Rules) (n : ℕ) → n < 2 ^ 128 → IsOneScalar by (decimal n) (whole_number (pos n))
decimal-one_scalar by n h =
    let small : n < 10 ^ 64 = omega arith in
    let v = unsigned-value n h in
    let is : number (decimal n) unsigned ≡ Some v.0 =
    digits-have_value (decimal n) (decimal-digits n) (decimal-some n small)
    ∙ ap unsigned_number (decimal-value n small) ∙ v.1 in
    rw (← v.2) (number-one_scalar by (decimal n) unsigned v.0 (number-by by (decimal n) (number-decimal n small)) is)

-- So is what is written of a signed one.
pub signed-one_scalar : (by : Rules) (z : ℤ) → FitsBits 127 z → IsOneScalar by (signed_decimal z) (whole_number z)
signed-one_scalar by (pos n) h = decimal-one_scalar by n (omega arith)
signed-one_scalar by (negsuc n) h =
    let small : suc n < 10 ^ 64 = omega arith in
    let v = negative-value n h in
    let is : number (minus ∷ decimal (suc n)) signed ≡ Some v.0 =
    minus-has_value (decimal (suc n)) (decimal-digits (suc n)) (decimal-some (suc n) small)
    ∙ ap negative_number (decimal-value (suc n) small) ∙ v.1 in
    let stands = number-by by (minus ∷ decimal (suc n)) (number-negative (suc n) small) in
    rw (← v.2) (number-one_scalar by (minus ∷ decimal (suc n)) signed v.0 stands is)

-- What is within 63 bits and a sign is within 127.
pub within-wider : (z : ℤ) → FitsBits 63 z → FitsBits 127 z
within-wider (pos n) h = omega arith
within-wider (negsuc n) h = omega arith

-- The text of a decimal is one scalar's token.
pub decimal_text-one_scalar : (by : Rules) (t : List ℕ) → IsNumberBy by t → number t float ≡ Some (numbers.decimal t) →
    IsOneScalar by t (trees.decimal t)
decimal_text-one_scalar by t stands e = number-one_scalar by t float (numbers.decimal t) stands e
