-- What more bytes leave of a number at the start of a buffer.
use Rattle.std.proofs.Common.{◌≡◌, ◌≢◌, ℕ, suc, ◌+◌, ◌≤◌, ◌<◌, Bool, true, false, cond, ◌==◌, List, [], ◌∷◌, ◌++◌, length, drop, refl, ap, ◌∙◌, arith}
use Rattle.std.proofs.lemmas.Bool.{both_ways}
use Rattle.std.proofs.lemmas.List.{length-drop, drop-append-le}
use Rattle.facet_format.specs.Bytes.{is_digit, is_exponent_mark, minus, dot}
use Rattle.facet_json_token.specs.Gap.{Mode}
use Rattle.facet_json_token.specs.Cut.{cut_number}
use Rattle.facet_json_token.specs.Open.{IsBeginning}
use Rattle.facet_format.specs.Number.{Hint, IsNumeral}
use Rattle.facet_format.specs.NumberParts.{digits_len, minus_len, fraction_len, sign_len, exponent_len, parts, parts_len, parts_hint, starts_number, begins_number, is_bare}
use Rattle.facet_format.proofs.NumberPrefixes.{power_len, parts_len-bound}
use Rattle.facet_json_token.proofs.NumberCuts.{number_at}
use Rattle.facet_format.proofs.NumberLaws.{parts_len-some, bare-minus, bare_minus-is, numeral-measured}

-- ---- a length that ends before the end of the bytes stays under more

-- A length that ends before the end of the bytes stays.
abbrev Stays : (List ℕ → ℕ) → Type 0
Stays f = (bytes more : List ℕ) → f bytes < length bytes → f (bytes ++ more) ≡ f bytes

-- A byte, if it stands, and what stays after it stay.
cond_suc-stays : (t : Bool) (m n len : ℕ) → (m < len → n ≡ m) → cond t (suc m) 0 < suc len →
    cond t (suc n) 0 ≡ cond t (suc m) 0
cond_suc-stays true m n len h lt = ap suc (h (omega arith))
cond_suc-stays false m n len h lt = refl

-- Each part stays.
digits_len-stays : Stays digits_len
digits_len-stays [] more lt = absurd (omega arith)
digits_len-stays (b ∷ bytes) more lt = cond_suc-stays (is_digit b) _ _ _ (digits_len-stays bytes more) lt

fraction_len-stays : Stays fraction_len
fraction_len-stays [] more lt = absurd (omega arith)
fraction_len-stays (b ∷ bytes) more lt = cond_suc-stays (b == dot) _ _ _ (digits_len-stays bytes more) lt

minus_len-stays : Stays minus_len
minus_len-stays [] more lt = absurd (omega arith)
minus_len-stays (b ∷ bytes) more lt = refl

sign_len-stays : Stays sign_len
sign_len-stays [] more lt = absurd (omega arith)
sign_len-stays (b ∷ bytes) more lt = refl

-- A part after a prefix stays.
after-stays : (f : List ℕ → ℕ) → Stays f → (n : ℕ) (bytes more : List ℕ) → n + f (drop n bytes) < length bytes →
    f (drop n (bytes ++ more)) ≡ f (drop n bytes)
after-stays f stays n bytes more lt =
    let within : n ≤ length bytes = omega arith in
    rw (drop-append-le n bytes more within) (stays (drop n bytes) more (omega (arith, length-drop n bytes)))

-- A sign and digits stay.
power_len-stays : Stays power_len
power_len-stays bytes more lt =
    rw (
      sign_len-stays bytes more (omega arith),
      after-stays digits_len digits_len-stays (sign_len bytes) bytes more lt,
    )

exponent_len-stays : Stays exponent_len
exponent_len-stays [] more lt = absurd (omega arith)
exponent_len-stays (b ∷ bytes) more lt = cond_suc-stays (is_exponent_mark b) _ _ _ (power_len-stays bytes more) lt

-- The parts of a number that ends before the end of the bytes stay under more.
parts-stays : (bytes more : List ℕ) → parts_len (parts bytes) < length bytes → parts (bytes ++ more) ≡ parts bytes
unfolding parts
parts-stays bytes more lt =
    let p = parts bytes in
    rw (
      minus_len-stays bytes more (omega arith),
      after-stays digits_len digits_len-stays p.sign bytes more (omega arith),
      after-stays fraction_len fraction_len-stays (p.sign + p.digits) bytes more (omega arith),
      after-stays exponent_len exponent_len-stays (p.sign + p.digits + p.fraction) bytes more lt,
    )

-- ---- a number that goes to the end of the bytes may go on

-- Bytes whose longest numeral goes to their end are a number or a minus, which may go on.
pub number_begins : (mode : Mode) (bytes : List ℕ) → begins_number bytes ≡ true →
    parts_len (parts bytes) ≡ length bytes → IsBeginning mode bytes
number_begins mode bytes begins all = by_bare (is_bare (parts bytes)) refl
  where
    numeral : IsNumeral bytes (parts_hint (parts bytes))
    numeral = numeral-measured bytes begins all

    by_bare : (t : Bool) → is_bare (parts bytes) ≡ t → IsBeginning mode bytes
    by_bare true t = rw (bare-minus bytes _ numeral t) (IsBeginning.minus_alone mode)
    by_bare false t =
        let more : bytes ≢ minus ∷ [] = λ e. both_ways _ t (ap (λ l. is_bare (parts l)) e ∙ bare_minus-is) in
        IsBeginning.number mode bytes _ (record { numeral = numeral; more = more })

-- ---- what is cut

-- With the same parts a number is cut alike from more bytes.
cut_number_by : (at : ℕ) (bytes more : List ℕ) (n : ℕ) (hint : Hint) (bare : Bool) → bytes ≢ [] →
    cut_number at (bytes ++ more) n hint bare ≡ cut_number at bytes n hint bare
cut_number_by at bytes more n hint false some = refl
cut_number_by at [] more n hint true some = absurd (some refl)
cut_number_by at (b ∷ bytes) more n hint true some = refl

-- A number that ends before the end of the bytes is cut alike from more bytes.
pub cut_number-stays : (mode : Mode) (at b : ℕ) (bytes more : List ℕ) → starts_number b ≡ true →
    (IsBeginning mode (b ∷ bytes) → ⊥) →
    number_at at (bytes ++ more) (parts (b ∷ bytes ++ more)) ≡ number_at at bytes (parts (b ∷ bytes))
cut_number-stays mode at b bytes more start shut =
    let p = parts (b ∷ bytes) in
    let ends : parts_len p ≡ length (b ∷ bytes) → ⊥ = λ e. shut (number_begins mode (b ∷ bytes) start e) in
    let within : parts_len p < length (b ∷ bytes) = omega (arith, parts_len-bound (b ∷ bytes)) in
    let some : bytes ≢ [] = λ e. omega (arith, parts_len-some (b ∷ bytes) start, ap length e) in
    ap (number_at at (bytes ++ more)) (parts-stays (b ∷ bytes) more within)
    ∙ cut_number_by at bytes more (parts_len p) (parts_hint p) (is_bare p) some
