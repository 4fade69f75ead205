-- A number that begins and ends with a digit has a value: a digit stands before any exponent mark, and one after it.
use Rattle.std.proofs.Common.{◌≡◌, ℕ, zero, suc, ◌+◌, ◌-◌, ◌<◌, true, not, ◌&&◌, ◌||◌, List, [], ◌∷◌, length, take, drop, get_or, Some, refl, ap, ◌∙◌, arith}
use Rattle.std.proofs.lemmas.Bool.{and_parts, or_left, or_right, and_from}
use Rattle.std.proofs.lemmas.List.{get_or-take, get_or-drop}
use Rattle.facet_format.specs.Bytes.{is_digit}
use Rattle.facet_format.specs.Number.{float}
use Rattle.facet_format.specs.NumberValue.{any_digit, has_value, decimal, number}
use Rattle.facet_format.specs.NumberParts.{minus_len, digits_len, parts, is_some_len, is_number}
use Rattle.facet_format.proofs.NumberLaws.{is_number-sound, parts_len-is}
use Rattle.facet_format.proofs.NumberText.{number-decimal}

-- Some byte is a digit, where the one at a place is.
any_digit-at : (bytes : List ℕ) (i : ℕ) → is_digit (get_or bytes i 0) ≡ true → any_digit bytes ≡ true
any_digit-at [] i is = cc
any_digit-at (b ∷ bytes) zero is = or_left (is_digit b) (any_digit bytes) is
any_digit-at (b ∷ bytes) (suc i) is = or_right (is_digit b) (any_digit bytes) (any_digit-at bytes i is)

-- Digits are measured where one stands.
digits-some : (bytes : List ℕ) → is_digit (get_or bytes 0 0) ≡ true → 0 < digits_len bytes
digits-some [] is = cc
digits-some (b ∷ bytes) is = rw is (omega arith)

-- What the outer digits say of the parts before an exponent and of the exponent.
outer-parts : (text : List ℕ) (k exponent : ℕ) → is_digit (get_or text (minus_len text) 0) ≡ true → is_digit (get_or text (length text - 1) 0) ≡ true
    → minus_len text < k → k + exponent ≡ length text → (any_digit (take k text) && (not (is_some_len exponent) || any_digit (drop k text))) ≡ true
outer-parts text k exponent first last more whole =
    let before = any_digit-at (take k text) (minus_len text) (ap is_digit (get_or-take k text (minus_len text) 0 more) ∙ first) in
    and_from (any_digit (take k text)) (not (is_some_len exponent) || any_digit (drop k text)) before (after exponent whole)
  where
    after : (n : ℕ) → k + n ≡ length text → (not (is_some_len n) || any_digit (drop k text)) ≡ true
    after zero e = refl
    after (suc n) e =
        let place : k + n ≡ length text - 1 = omega arith in
        any_digit-at (drop k text) n (ap is_digit (get_or-drop k text n 0 ∙ ap (λ i. get_or text i 0) place) ∙ last)

outer-has_value : (text : List ℕ) → is_number text float ≡ true → (is_digit (get_or text (minus_len text) 0) && is_digit (get_or text (length text - 1) 0)) ≡ true → has_value (parts text) text ≡ true
unfolding parts
outer-has_value text is outer =
    let p = parts text in
    let both = and_parts (is_digit (get_or text (minus_len text) 0)) (is_digit (get_or text (length text - 1) 0)) outer in
    let whole = parts_len-is text float (is_number-sound text float is).numeral in
    let place : minus_len text + 0 ≡ minus_len text = omega arith in
    let digits = digits-some (drop (minus_len text) text) (ap is_digit (get_or-drop (minus_len text) text 0 0 ∙ ap (λ i. get_or text i 0) place) ∙ both.0) in
    outer-parts text (p.sign + p.digits + p.fraction) p.exponent both.0 both.1 (omega arith) (omega (arith, whole))

-- Such a number stands for its text.
pub outer-number : (text : List ℕ) → is_number text float ≡ true → (is_digit (get_or text (minus_len text) 0) && is_digit (get_or text (length text - 1) 0)) ≡ true → number text float ≡ Some (decimal text)
outer-number text is outer = number-decimal text (parts text) refl is (outer-has_value text is outer)
