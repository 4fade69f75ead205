-- A number whose first digit is no zero, or that has a fraction or an exponent, is written as it stands.
use Rattle.std.proofs.Common.{◌≡◌, ◌≤◌, ◌<◌, ◌+◌, ◌-◌, ◌*◌, ◌^◌, ℕ, pos, zero, suc, Bool, true, false, cond, List, [], ◌∷◌, length, take, Option, Some, None, refl, sym, subst, ap, ◌∙◌, arith}
use Rattle.std.specs.Prelude.{◌==◌, nat_le, nat_lt, neg_ℤ, slice_get}
use Rattle.std.specs.Fmt.{decimal, signed_decimal}
use Rattle.std.proofs.lemmas.Bool.{ltb-true}
use Rattle.std.proofs.lemmas.Bool.Decides.{nat_tests}
use Rattle.std.proofs.lemmas.Fmt.{decimal-digits_value}
use Rattle.std.proofs.lemmas.List.{take_all}
use Rattle.std.proofs.lemmas.Str.Parse.{IsDigitsTest, IsNumeralModel, numerals_by_fold}
use Rattle.facet_format.specs.Bytes.{dot, is_digit, minus}
use Rattle.facet_format.specs.Number.{Hint, AreDigits, unsigned, signed, float, hint_by}
use Rattle.facet_format.specs.NumberParts.{is_number, parts, parts_hint}
use Rattle.facet_format.specs.NumberValue.{Number, digits_value, has_value, negative_number, number, unsigned_number}
use Rattle.facet_format.specs.NumberValue as numbers
use Rattle.facet_format.proofs.NumberText.{digits_value-grows, number-signed, number-unsigned, signed-digits, unsigned-digits}
use Rattle.facet_json_grammar.specs.Text.{Options, text}
use Rattle.facet_json_document.specs.Nodes.{number_tree, small_if_any, small_number}
use Rattle.facet_json_document.specs.OwnNumber.{is_small, own_number}
use Rattle.facet_json_document.specs.Inner.PlainNumbers.{BeginsPlain, by_digit, by_minus, by_point}
use Rattle.facet_json_document.proofs.NodeBytes.{valued}

-- ---- digits

digits-parts : (c : ℕ) (cs : List ℕ) → AreDigits (c ∷ cs) → (is_digit c ≡ true) × AreDigits cs
digits-parts c cs (AreDigits.digit _ _ is are) = (is, are)

are_tested : IsDigitsTest AreDigits
are_tested = record {
  empty = AreDigits.none;
  parts = λ c cs are. let is = (digits-parts c cs are).0 in (grind (arith, nat_tests, is), (digits-parts c cs are).1);
  more = λ c cs range are. AreDigits.digit c cs (grind (arith, nat_tests, range)) are;
}

own_value : IsNumeralModel AreDigits (digits_value 0)
own_value = numerals_by_fold AreDigits are_tested digits_value (record { empty = λ n. refl; more = λ n c cs is. refl })

-- Digits without a zero in front are what is written of their value.
digits-written : (bytes : List ℕ) (b : ℕ) → AreDigits bytes → slice_get bytes 0 ≡ Some b → 0x31 ≤ b → digits_value 0 bytes < 2 ^ 64 →
    decimal (digits_value 0 bytes) ≡ bytes
digits-written [] b are first high small = cc
digits-written (c ∷ bytes) b are first high small =
    let same : c ≡ b = cc in
    decimal-digits_value own_value (c ∷ bytes) are (omega arith) (λ e. absurd (omega (arith, same, e, high))) small

-- ---- values

float-value : (bytes : List ℕ) (n : Number) → number bytes float ≡ Some n → n ≡ numbers.decimal bytes
unfolding number
float-value bytes n e = by (is_number bytes float) (has_value (parts bytes) bytes) e
  where
    by : (a b : Bool) → cond a (cond b (Some (numbers.decimal bytes)) None) None ≡ Some n → n ≡ numbers.decimal bytes
    by true true e = cc
    by true false e = cc
    by false _ e = cc

unsigned-small : (v : ℕ) (n : Number) → unsigned_number v ≡ Some n → is_small (Some n) ≡ true → (n ≡ numbers.u64 v) × (v < 2 ^ 64)
unsigned-small v n e small = by (nat_lt v (2 ^ 64)) (nat_lt v (2 ^ 128)) refl e
  where
    by : (a b : Bool) → nat_lt v (2 ^ 64) ≡ a → cond a (Some (numbers.u64 v)) (cond b (Some (numbers.u128 v)) None) ≡ Some n →
        (n ≡ numbers.u64 v) × (v < 2 ^ 64)
    by true b is e = (cc, ltb-true v (2 ^ 64) is)
    by false true is e = let wide : n ≡ numbers.u128 v = cc in absurd (cc)
    by false false is e = absurd (cc)

negative-small : (v : ℕ) (n : Number) → negative_number v ≡ Some n → is_small (Some n) ≡ true → (n ≡ numbers.i64 (neg_ℤ (pos v))) × (v ≤ 2 ^ 63)
negative-small v n e small = by (nat_le v (2 ^ 63)) (nat_le v (2 ^ 127)) refl e
  where
    by : (a b : Bool) → nat_le v (2 ^ 63) ≡ a → cond a (Some (numbers.i64 (neg_ℤ (pos v)))) (cond b (Some (numbers.i128 (neg_ℤ (pos v)))) None) ≡ Some n →
        (n ≡ numbers.i64 (neg_ℤ (pos v))) × (v ≤ 2 ^ 63)
    by true b is e = (cc, grind (arith, nat_tests, is))
    by false true is e = let wide : n ≡ numbers.i128 (neg_ℤ (pos v)) = cc in absurd (cc)
    by false false is e = absurd (cc)

signed-written : (v : ℕ) → 0 < v → signed_decimal (neg_ℤ (pos v)) ≡ minus ∷ decimal v
signed-written zero some = absurd (omega (arith, some))
signed-written (suc v) some = refl

-- ---- texts

-- Without a minus no number is a signed one.
unsigned-front : (f x : Bool) → hint_by false f x ≡ signed → ⊥
unsigned-front true x e = cc
unsigned-front false true e = cc
unsigned-front false false e = cc

no_minus-unsigned : (b : ℕ) (bytes : List ℕ) → 0x30 ≤ b → parts_hint (parts (b ∷ bytes)) ≡ signed → ⊥
unfolding parts
no_minus-unsigned b bytes high e =
    let other : (b == minus) ≡ false = grind (arith, nat_tests, high) in
    unsigned-front _ _ (rw other at e)

minus-sign : (bytes : List ℕ) → 1 ≡ (parts (minus ∷ bytes)).sign
unfolding parts
minus-sign bytes = refl

module _ (o : Options) (depth : ℕ) where
  floated : (bytes : List ℕ) (n : Number) → number bytes float ≡ Some n → bytes ≡ text o depth (small_number n)
  unfolding text
  floated bytes n e = sym (ap (λ m. text o depth (small_number m)) (float-value bytes n e))

  -- Of digits.
  counted : (bytes : List ℕ) (n : Number) → number bytes unsigned ≡ Some n → is_small (Some n) ≡ true → BeginsPlain bytes →
      bytes ≡ text o depth (small_number n)
  unfolding text
  counted bytes n e small front =
      let is = valued bytes unsigned n e in
      let are = unsigned-digits bytes is in
      let value = unsigned-small (digits_value 0 bytes) n (sym (number-unsigned bytes is) ∙ e) small in
      sym (ap (λ m. text o depth (small_number m)) value.0 ∙ by bytes are value.1 front)
    where
      by : (l : List ℕ) → AreDigits l → digits_value 0 l < 2 ^ 64 → BeginsPlain l → decimal (digits_value 0 l) ≡ l
      by l are few (by_digit b first high) = digits-written l b are first high few
      by (c ∷ l) are few (by_minus b first _ _) =
          let is = (digits-parts c l are).0 in let same : c ≡ minus = cc in absurd (let no : is_digit minus ≡ true = subst (λ x. is_digit x ≡ true) same is in cc)
      by [] are few (by_minus b first _ _) = cc
      by (c ∷ d ∷ l) are few (by_point first second) =
          let is = (digits-parts d l (digits-parts c (d ∷ l) are).1).0 in
          let same : d ≡ dot = cc in absurd (let no : is_digit dot ≡ true = subst (λ x. is_digit x ≡ true) same is in cc)
      by (c ∷ []) are few (by_point first second) = cc
      by [] are few (by_point first second) = cc

  -- Of digits after a minus.
  negated : (bytes : List ℕ) (n : Number) → parts_hint (parts bytes) ≡ signed → number bytes signed ≡ Some n → is_small (Some n) ≡ true →
      BeginsPlain bytes → bytes ≡ text o depth (small_number n)
  unfolding text
  negated (c ∷ bytes) n hint e small (by_digit b first high) = let same : c ≡ b = cc in absurd (no_minus-unsigned c bytes (omega (arith, same, high)) hint)
  negated (c ∷ bytes) n hint e small (by_point first second) = let same : c ≡ 0x30 = cc in absurd (no_minus-unsigned c bytes (omega (arith, same)) hint)
  negated (c ∷ d ∷ bytes) n hint e small (by_minus b first second high) =
      let same : c ≡ minus = cc in
      let next : d ≡ b = cc in
      let read : number (minus ∷ d ∷ bytes) signed ≡ Some n = subst (λ x. number (x ∷ d ∷ bytes) signed ≡ Some n) same e in
      let is = valued (minus ∷ d ∷ bytes) signed n read in
      let all : take (length (minus ∷ d ∷ bytes) - 1) (d ∷ bytes) ≡ d ∷ bytes = take_all (length (minus ∷ d ∷ bytes) - 1) (d ∷ bytes) (omega arith) in
      let are : AreDigits (d ∷ bytes) = subst AreDigits all (signed-digits (minus ∷ d ∷ bytes) 1 (minus-sign (d ∷ bytes)) is) in
      let told : negative_number (digits_value 0 (d ∷ bytes)) ≡ Some n =
      sym (number-signed (minus ∷ d ∷ bytes) 1 (minus-sign (d ∷ bytes)) is ∙ ap (λ l. negative_number (digits_value 0 l)) all) ∙ read in
      let value = negative-small (digits_value 0 (d ∷ bytes)) n told small in
      let some : 0 < digits_value 0 (d ∷ bytes) = omega (arith, digits_value-grows (0 * 10 + (d - 0x30)) bytes, next, high) in
      let few : digits_value 0 (d ∷ bytes) < 2 ^ 64 = omega (arith, value.1) in
      sym (
      ap (λ m. text o depth (small_number m)) value.0 ∙ signed-written (digits_value 0 (d ∷ bytes)) some
      ∙ ap (λ l. minus ∷ l) (digits-written (d ∷ bytes) d are refl (omega (arith, next, high)) few)
      ∙ ap (λ x. x ∷ d ∷ bytes) (sym same)
      )
  negated (c ∷ []) n hint e small (by_minus b first second high) = cc
  negated [] n hint e small (by_digit b first high) = cc
  negated [] n hint e small (by_minus b first second high) = cc
  negated [] n hint e small (by_point first second) = cc

  by-hint : (bytes : List ℕ) (h : Hint) (n : Number) → parts_hint (parts bytes) ≡ h → number bytes h ≡ Some n → is_small (Some n) ≡ true →
      BeginsPlain bytes → bytes ≡ text o depth (small_number n)
  by-hint bytes float n hint e small front = floated bytes n e
  by-hint bytes unsigned n hint e small front = counted bytes n e small front
  by-hint bytes signed n hint e small front = negated bytes n hint e small front

  pub plain-written : (bytes : List ℕ) → is_small (own_number bytes) ≡ true → BeginsPlain bytes → bytes ≡ text o depth (number_tree bytes)
  plain-written bytes small front = by (own_number bytes) refl small
    where
      by : (a : Option Number) → own_number bytes ≡ a → is_small a ≡ true → bytes ≡ text o depth (number_tree bytes)
      by None e small = cc
      by (Some n) e small = by-hint bytes (parts_hint (parts bytes)) n refl e small front ∙ sym (ap (λ a. text o depth (small_if_any a)) e)
