-- What the text of a number stands for (RFC 8259, section 6).
use Rattle.std.specs.Prelude.{ℕ, ◌+◌, ◌-◌, ◌*◌, ◌^◌, Bool, false, cond, not, ◌&&◌, ◌||◌, nat_lt, nat_le, List, [], ◌∷◌, take, drop, Option, Some, None, ℤ, pos, neg_ℤ}
use Rattle.facet_format.specs.Bytes.{is_digit}
use Rattle.facet_format.specs.NumberParts.{Parts, parts, is_some_len, is_number}
use Rattle.facet_format.specs.Number.{Hint, unsigned, signed, float}

pub data Number : Type 0 where
  u64 : ℕ → Number
  u128 : ℕ → Number
  i64 : ℤ → Number
  i128 : ℤ → Number
  decimal : List ℕ → Number

-- the number that digits spell in base ten, after the digits that spell n
abbrev pub digits_value : ℕ → List ℕ → ℕ
digits_value n [] = n
digits_value n (b ∷ bytes) = digits_value (n * 10 + (b - 0x30)) bytes

-- without a sign, in 64 bits where it fits, else in 128
abbrev pub unsigned_number : ℕ → Option Number
unsigned_number n = cond (nat_lt n (2 ^ 64)) (Some (u64 n)) (cond (nat_lt n (2 ^ 128)) (Some (u128 n)) None)

-- after a minus
abbrev pub negative_number : ℕ → Option Number
negative_number n = cond (nat_le n (2 ^ 63)) (Some (i64 (neg_ℤ (pos n)))) (cond (nat_le n (2 ^ 127)) (Some (i128 (neg_ℤ (pos n)))) None)

abbrev pub any_digit : List ℕ → Bool
any_digit [] = false
any_digit (b ∷ bytes) = is_digit b || any_digit bytes

-- A digit stands before any exponent mark, and one after it.
abbrev pub has_value : Parts → List ℕ → Bool
has_value p text = any_digit (take (p.sign + p.digits + p.fraction) text) && (not (is_some_len p.exponent) || any_digit (drop (p.sign + p.digits + p.fraction) text))

abbrev pub value_by : Hint → Parts → List ℕ → Option Number
value_by unsigned p text = unsigned_number (digits_value 0 text)
value_by signed p text = negative_number (digits_value 0 (drop p.sign text))
value_by float p text = cond (has_value p text) (Some (decimal text)) None

-- the value of a number's text with that hint, or none
unfoldable pub number : List ℕ → Hint → Option Number
number text hint = cond (is_number text hint) (value_by hint (parts text) text) None
