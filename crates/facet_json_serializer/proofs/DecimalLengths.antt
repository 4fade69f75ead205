-- How long decimal texts are.
use Rattle.std.proofs.Common.{◌≡◌, ℕ, zero, suc, ◌+◌, ◌*◌, ◌/◌, ◌%◌, ◌^◌, ◌<◌, ◌≤◌, [], ◌∷◌, length, ap, ◌∙◌, arith}
use Rattle.std.specs.Fmt.{decimal}
use Rattle.std.proofs.lemmas.Fmt.{decimal_digit, decimal_nonempty, decimal_step, length-decimal-le}
use Rattle.std.proofs.lemmas.List.{length-append}
use native.Mathlib.Nat.{one-le-pow, pow-suc}

pub one_digit : (n : ℕ) → n < 10 → length (decimal n) ≡ 1
one_digit n h = ap length (decimal_digit n h)

-- a number from a power of ten on has more digits than the power
pub digits_from_power : (k n : ℕ) → 10 ^ k ≤ n → n < 2 ^ 64 → suc k ≤ length (decimal n)
digits_from_power zero n from small = omega (arith, decimal_nonempty n small)
digits_from_power (suc k) n from small =
    let next : 10 ^ suc k ≡ 10 ^ k * 10 = pow-suc 10 k in
    let some : 1 ≤ 10 ^ k = one-le-pow k 10 (omega arith) in
    let less = digits_from_power k (n / 10) (omega (arith, next, from)) (omega arith) in
    let one_more : length (decimal n) ≡ length (decimal (n / 10)) + 1 =
    ap length (decimal_step n (omega (arith, next, some, from)) small) ∙ length-append (decimal (n / 10)) ((48 + n % 10) ∷ []) in
    omega (arith, less, one_more)

-- so many it has that is below the next power
pub digits_between_powers : (k n : ℕ) → 10 ^ k ≤ n → n < 10 * 10 ^ k → n < 2 ^ 64 → length (decimal n) ≡ suc k
digits_between_powers k n from below small =
    omega (arith, digits_from_power k n from small, length-decimal-le (suc k) n (omega arith) (omega arith) small)
