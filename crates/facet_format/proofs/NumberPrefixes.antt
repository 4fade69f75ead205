-- A numeral is measured alike in the bytes and in each prefix of them that holds it.
use Rattle.std.proofs.Common.{◌≡◌, ℕ, zero, suc, ◌+◌, ◌-◌, ◌≤◌, ◌<◌, Bool, true, false, cond, ◌==◌, List, [], ◌∷◌, length, take, drop, refl, sym, ap, ◌∙◌, arith, length-drop}
use Rattle.std.proofs.lemmas.List.{drop-take, length-take-le}
use Rattle.facet_format.specs.Bytes.{is_digit, is_exponent_mark, is_sign, minus, dot}
use Rattle.std.proofs.lemmas.Bool.{and_from, not_from_false, eq-eqb, eqb-false}
use Rattle.facet_format.specs.Number.{Hint, unsigned}
use Rattle.facet_format.specs.NumberParts.{digits_len, minus_len, fraction_len, sign_len, exponent_len, Parts, parts, parts_len, parts_hint, is_bare, begins_number, is_number, same_hint}

-- ---- no part is longer than the bytes

-- One more than a bound, or nothing, is within one more.
pub cond_bound : (t : Bool) (n k : ℕ) → n ≤ k → cond t (suc n) 0 ≤ suc k
cond_bound true n k h = omega arith
cond_bound false n k h = omega arith

-- Digits are no longer than the bytes, and so is each other part.
digits_len-bound : (bytes : List ℕ) → digits_len bytes ≤ length bytes
digits_len-bound [] = omega arith
digits_len-bound (b ∷ bytes) = cond_bound (is_digit b) _ _ (digits_len-bound bytes)

minus_len-bound : (bytes : List ℕ) → minus_len bytes ≤ length bytes
minus_len-bound [] = omega arith
minus_len-bound (b ∷ bytes) = cond_bound (b == minus) 0 (length bytes) (omega arith)

fraction_len-bound : (bytes : List ℕ) → fraction_len bytes ≤ length bytes
fraction_len-bound [] = omega arith
fraction_len-bound (b ∷ bytes) = cond_bound (b == dot) _ _ (digits_len-bound bytes)

pub sign_len-bound : (bytes : List ℕ) → sign_len bytes ≤ length bytes
sign_len-bound [] = omega arith
sign_len-bound (b ∷ bytes) = cond_bound (is_sign b) 0 (length bytes) (omega arith)

-- the length of a sign and digits
abbrev pub power_len : List ℕ → ℕ
power_len bytes = sign_len bytes + digits_len (drop (sign_len bytes) bytes)

-- A sign and digits are no longer than the bytes.
power_len-bound : (bytes : List ℕ) → power_len bytes ≤ length bytes
power_len-bound bytes =
    omega (
      arith,
      sign_len-bound bytes,
      digits_len-bound (drop (sign_len bytes) bytes),
      length-drop (sign_len bytes) bytes,
    )

exponent_len-bound : (bytes : List ℕ) → exponent_len bytes ≤ length bytes
exponent_len-bound [] = omega arith
exponent_len-bound (b ∷ bytes) = cond_bound (is_exponent_mark b) _ _ (power_len-bound bytes)

-- A numeral is no longer than the bytes.
pub parts_len-bound : (bytes : List ℕ) → parts_len (parts bytes) ≤ length bytes
unfolding parts
parts_len-bound bytes =
    let sign = minus_len bytes in
    let digits = digits_len (drop sign bytes) in
    let fraction = fraction_len (drop (sign + digits) bytes) in
    omega (
      arith,
      minus_len-bound bytes,
      digits_len-bound (drop sign bytes),
      fraction_len-bound (drop (sign + digits) bytes),
      exponent_len-bound (drop (sign + digits + fraction) bytes),
      length-drop sign bytes,
      length-drop (sign + digits) bytes,
      length-drop (sign + digits + fraction) bytes,
    )

-- ---- each part is measured alike in a prefix that holds it

-- A measure of the prefix, and of the whole where that is within k more.
cond_front : (t : Bool) (x y k : ℕ) → cond t (suc y) 0 ≤ suc k → (y ≤ k → x ≡ y) → cond t (suc x) 0 ≡ cond t (suc y) 0
cond_front true x y k h f = ap suc (f (omega arith))
cond_front false x y k h f = refl

-- Digits are measured alike in a prefix that holds them, and so is each other part.
digits_len-take : (k : ℕ) (bytes : List ℕ) → digits_len bytes ≤ k → digits_len (take k bytes) ≡ digits_len bytes
digits_len-take zero bytes h = omega arith
digits_len-take (suc k) [] h = refl
digits_len-take (suc k) (b ∷ bytes) h = cond_front (is_digit b) _ _ k h (digits_len-take k bytes)

minus_len-take : (k : ℕ) (bytes : List ℕ) → minus_len bytes ≤ k → minus_len (take k bytes) ≡ minus_len bytes
minus_len-take zero bytes h = omega arith
minus_len-take (suc k) [] h = refl
minus_len-take (suc k) (b ∷ bytes) h = refl

fraction_len-take : (k : ℕ) (bytes : List ℕ) → fraction_len bytes ≤ k →
    fraction_len (take k bytes) ≡ fraction_len bytes
fraction_len-take zero bytes h = omega arith
fraction_len-take (suc k) [] h = refl
fraction_len-take (suc k) (b ∷ bytes) h = cond_front (b == dot) _ _ k h (digits_len-take k bytes)

-- An exponent's sign is measured alike in a prefix that holds it.
sign_len-take : (k : ℕ) (bytes : List ℕ) → sign_len bytes ≤ k → sign_len (take k bytes) ≡ sign_len bytes
sign_len-take zero bytes h = omega arith
sign_len-take (suc k) [] h = refl
sign_len-take (suc k) (b ∷ bytes) h = refl

-- After n bytes, a prefix of m more is a prefix of what stands there.
drop_front : (n k : ℕ) (bytes : List ℕ) → n ≤ k → drop n (take k bytes) ≡ take (k - n) (drop n bytes)
drop_front n k bytes h =
    let e : k ≡ n + (k - n) = omega arith in ap (λ m. drop n (take m bytes)) e ∙ drop-take n (k - n) bytes

-- Digits after n bytes are measured alike in a prefix that holds them.
digits_behind : (n k : ℕ) (bytes : List ℕ) → n + digits_len (drop n bytes) ≤ k →
    digits_len (drop n (take k bytes)) ≡ digits_len (drop n bytes)
digits_behind n k bytes h =
    ap digits_len (drop_front n k bytes (omega arith)) ∙ digits_len-take (k - n) (drop n bytes) (omega arith)

-- The same of a fraction.
fraction_behind : (n k : ℕ) (bytes : List ℕ) → n + fraction_len (drop n bytes) ≤ k →
    fraction_len (drop n (take k bytes)) ≡ fraction_len (drop n bytes)
fraction_behind n k bytes h =
    ap fraction_len (drop_front n k bytes (omega arith)) ∙ fraction_len-take (k - n) (drop n bytes) (omega arith)

-- A sign and digits are measured alike in a prefix that holds them.
power_len-take : (k : ℕ) (bytes : List ℕ) → power_len bytes ≤ k → power_len (take k bytes) ≡ power_len bytes
power_len-take k bytes h =
    let e : sign_len (take k bytes) ≡ sign_len bytes = sign_len-take k bytes (omega arith) in
    ap (λ n. n + digits_len (drop n (take k bytes))) e
    ∙ ap (λ n. sign_len bytes + n) (digits_behind (sign_len bytes) k bytes h)

exponent_len-take : (k : ℕ) (bytes : List ℕ) → exponent_len bytes ≤ k →
    exponent_len (take k bytes) ≡ exponent_len bytes
exponent_len-take zero bytes h = omega arith
exponent_len-take (suc k) [] h = refl
exponent_len-take (suc k) (b ∷ bytes) h = cond_front (is_exponent_mark b) _ _ k h (power_len-take k bytes)

-- The same of an exponent.
exponent_behind : (n k : ℕ) (bytes : List ℕ) → n + exponent_len (drop n bytes) ≤ k →
    exponent_len (drop n (take k bytes)) ≡ exponent_len (drop n bytes)
exponent_behind n k bytes h =
    ap exponent_len (drop_front n k bytes (omega arith)) ∙ exponent_len-take (k - n) (drop n bytes) (omega arith)

-- The parts, when the first of them are given.
abbrev pub from_exponent : ℕ → ℕ → ℕ → ℕ → Parts
from_exponent s d f e = record { sign = s; digits = d; fraction = f; exponent = e }

abbrev pub from_fraction : List ℕ → ℕ → ℕ → ℕ → Parts
from_fraction bytes s d f = from_exponent s d f (exponent_len (drop (s + d + f) bytes))

abbrev pub from_digits : List ℕ → ℕ → ℕ → Parts
from_digits bytes s d = from_fraction bytes s d (fraction_len (drop (s + d) bytes))

abbrev pub from_sign : List ℕ → ℕ → Parts
from_sign bytes s = from_digits bytes s (digits_len (drop s bytes))

-- A numeral has the same parts in each prefix that holds it.
pub parts-take : (k : ℕ) (bytes : List ℕ) → parts_len (parts bytes) ≤ k → parts (take k bytes) ≡ parts bytes
unfolding parts
parts-take k bytes h =
    let s = minus_len bytes in
    let d = digits_len (drop s bytes) in
    let f = fraction_len (drop (s + d) bytes) in
    let front = take k bytes in
    ap (from_sign front) (minus_len-take k bytes (omega arith))
    ∙ ap (from_digits front s) (digits_behind s k bytes (omega arith))
    ∙ ap (from_fraction front s d) (fraction_behind (s + d) k bytes (omega arith))
    ∙ ap (from_exponent s d f) (exponent_behind (s + d + f) k bytes (omega arith))

-- ---- the number at the start

-- A hint is the same as itself.
pub same_hint-refl : (hint : Hint) → same_hint hint hint ≡ true
same_hint-refl unsigned = refl
same_hint-refl _ = refl

-- A number's start is left in a prefix of it.
begins_number-take : (k : ℕ) (bytes : List ℕ) → 0 < k → begins_number bytes ≡ true → begins_number (take k bytes) ≡ true
begins_number-take zero bytes h e = absurd (omega arith)
begins_number-take (suc k) [] h e = e
begins_number-take (suc k) (b ∷ bytes) h e = e

-- More than a minus is something.
pub is_bare-some : (p : Parts) → is_bare p ≡ false → 0 < parts_len p
is_bare-some p e = omega (arith, eqb-false (parts_len p) p.sign e)

-- Where more than a minus stands, the longest numeral is a number.
pub is_number-front : (bytes : List ℕ) → begins_number bytes ≡ true → is_bare (parts bytes) ≡ false →
    is_number (take (parts_len (parts bytes)) bytes) (parts_hint (parts bytes)) ≡ true
is_number-front bytes begins more =
    let n = parts_len (parts bytes) in
    let front = take n bytes in
    let same : parts front ≡ parts bytes = parts-take n bytes (omega arith) in
    let some : 0 < n = is_bare-some (parts bytes) more in
    let starts : begins_number front ≡ true = begins_number-take n bytes some begins in
    let long : length front ≡ n = length-take-le n bytes (parts_len-bound bytes) in
    rw same (and_from _ _
    (and_from _ _ (and_from _ _ starts (not_from_false _ more)) (eq-eqb n (length front) (sym long)))
    (same_hint-refl (parts_hint (parts bytes))))
