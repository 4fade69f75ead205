-- What digits spell: less than ten to the power of their number, and four of them at once.
use Rattle.std.proofs.Common.{◌≡◌, ℕ, suc, ◌+◌, ◌-◌, ◌*◌, ◌<◌, ◌≤◌, ◌^◌, true, List, length, drop, get_or, lit<, sym, ap, ◌∙◌, arith}
use Rattle.std.specs.Prelude.{nat_le}
use Rattle.std.proofs.Math.Nat.{pow-suc, pow-le-pow_right, mul-le-mul_right}
use Rattle.std.proofs.lemmas.Bool.{and_parts, leb-true}
use Rattle.facet_format.specs.Bytes.{is_digit}
use Rattle.facet_format.specs.Number.{AreDigits, none, digit}
use Rattle.facet_format.specs.NumberValue.{digits_value}
use Rattle.facet_format.proofs.NumberText.{digits_value-step}

-- A digit adds nine at most.
nine_at_most : (b : ℕ) → is_digit b ≡ true → b - 0x30 ≤ 9
nine_at_most b is = let high : b ≤ 0x39 = leb-true b 0x39 (and_parts (nat_le 0x30 b) (nat_le b 0x39) is).1 in omega arith

tenfold : (n p : ℕ) → (n + 1) * 10 * p ≡ (n + 1) * (p * 10)
tenfold n p = grind arith

digits_value-below : (n : ℕ) (bytes : List ℕ) → AreDigits bytes → digits_value n bytes < (n + 1) * 10 ^ length bytes
digits_value-below n _ none = omega arith
digits_value-below n _ (digit b bytes is others) =
    let p = 10 ^ length bytes in
    let m = n * 10 + (b - 0x30) in
    let below = digits_value-below m bytes others in
    let more : (m + 1) * p ≤ (n + 1) * 10 * p = mul-le-mul_right p (omega (arith, nine_at_most b is)) in
    let power : (n + 1) * (p * 10) ≡ (n + 1) * 10 ^ suc (length bytes) = ap (λ q. (n + 1) * q) (sym (pow-suc 10 (length bytes))) in
    omega (arith, below, more, tenfold n p, power)

-- Fewer than twenty digits fit 64 bits.
pub digits_value-fits : (bytes : List ℕ) → AreDigits bytes → length bytes < 20 → digits_value 0 bytes < 2 ^ 64
digits_value-fits bytes are short =
    let few : length bytes ≤ 19 = omega arith in
    let power : 10 ^ length bytes ≤ 10 ^ 19 = pow-le-pow_right (lit< tt) few in
    omega (arith, digits_value-below 0 bytes are, power)

-- Four digits at a place make of the value before them ten thousand times that value and their own.
pub four-digits : (bytes : List ℕ) (i n : ℕ) → i + 4 ≤ length bytes →
    digits_value n (drop i bytes)
    ≡ digits_value (n * 10000 + ((get_or bytes i 0 - 0x30) * 1000 + (get_or bytes (i + 1) 0 - 0x30) * 100 + (get_or bytes (i + 2) 0 - 0x30) * 10 + (get_or bytes (i + 3) 0 - 0x30))) (drop (i + 4) bytes)
four-digits bytes i n room =
    let a = get_or bytes i 0 - 0x30 in
    let b = get_or bytes (i + 1) 0 - 0x30 in
    let c = get_or bytes (i + 2) 0 - 0x30 in
    let d = get_or bytes (i + 3) 0 - 0x30 in
    let two : i + 1 + 1 ≡ i + 2 = omega arith in
    let three : i + 2 + 1 ≡ i + 3 = omega arith in
    let four : i + 3 + 1 ≡ i + 4 = omega arith in
    let whole : (((n * 10 + a) * 10 + b) * 10 + c) * 10 + d ≡ n * 10000 + (a * 1000 + b * 100 + c * 10 + d) = omega arith in
    digits_value-step n bytes i (omega arith)
    ∙ digits_value-step (n * 10 + a) bytes (i + 1) (omega arith) ∙ ap (λ k. digits_value ((n * 10 + a) * 10 + b) (drop k bytes)) two
    ∙ digits_value-step ((n * 10 + a) * 10 + b) bytes (i + 2) (omega arith) ∙ ap (λ k. digits_value (((n * 10 + a) * 10 + b) * 10 + c) (drop k bytes)) three
    ∙ digits_value-step (((n * 10 + a) * 10 + b) * 10 + c) bytes (i + 3) (omega arith) ∙ ap (λ k. digits_value ((((n * 10 + a) * 10 + b) * 10 + c) * 10 + d) (drop k bytes)) four
    ∙ ap (λ m. digits_value m (drop (i + 4) bytes)) whole
