-- A table of hexadecimal digits is held against their values at each of the 256 bytes, by computing.
use Rattle.std.proofs.Common.{◌≡◌, ℕ, ◌<◌, ◌≤◌, true, cond, nat_eq, nat_lt, get_or, List, arith}
use Rattle.std.specs.Char.{digit_value}
use Rattle.std.proofs.lemmas.Bool.{agree_below, agree_below_at, eqb-true}
use Rattle.std.proofs.lemmas.Bool.Decides.{nat_tests}

-- the value of a digit of base 16, and of another byte the number past four digits
abbrev pub hex_or_past : ℕ → ℕ
hex_or_past b = cond (nat_lt (digit_value b) 16) (digit_value b) 0x10000

pub hex_or_past-digit : (b : ℕ) → digit_value b < 16 → hex_or_past b ≡ digit_value b
hex_or_past-digit b is = grind (arith, nat_tests)

pub hex_or_past-other : (b : ℕ) → 16 ≤ digit_value b → hex_or_past b ≡ 0x10000
hex_or_past-other b is = grind (arith, nat_tests)

-- A table that was computed to agree at each byte agrees at one.
pub from_table : (table : List ℕ) (b : ℕ) → b < 256 → agree_below (λ k. nat_eq (get_or table k 0) (hex_or_past k)) (λ _. true) 256 ≡ true
    → get_or table b 0 ≡ hex_or_past b
from_table table b lt h =
    eqb-true (get_or table b 0) (hex_or_past b) (agree_below_at (λ k. nat_eq (get_or table k 0) (hex_or_past k)) (λ _. true) 256 b h lt)
