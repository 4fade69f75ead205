-- The parts of the longest number at the start of some bytes, computed, and whether a text is a number.
use Rattle.std.specs.Prelude.{◌≡◌, ◌≤◌, ℕ, zero, suc, ◌+◌, Bool, true, false, cond, not, ◌==◌, ◌&&◌, ◌||◌, List, [], ◌∷◌, length, drop}
use Rattle.facet_format.specs.Bytes.{is_digit, is_exponent_mark, is_sign, minus, dot}
use Rattle.facet_format.specs.Number.{Hint, unsigned, signed, float, hint_by}

abbrev pub digits_len : List ℕ → ℕ
digits_len [] = 0
digits_len (b ∷ bytes) = cond (is_digit b) (suc (digits_len bytes)) 0

abbrev pub minus_len : List ℕ → ℕ
minus_len [] = 0
minus_len (b ∷ bytes) = cond (b == minus) 1 0

abbrev pub fraction_len : List ℕ → ℕ
fraction_len [] = 0
fraction_len (b ∷ bytes) = cond (b == dot) (suc (digits_len bytes)) 0

abbrev pub sign_len : List ℕ → ℕ
sign_len [] = 0
sign_len (b ∷ bytes) = cond (is_sign b) 1 0

abbrev pub exponent_len : List ℕ → ℕ
exponent_len [] = 0
exponent_len (b ∷ bytes) = cond (is_exponent_mark b) (suc (sign_len bytes + digits_len (drop (sign_len bytes) bytes))) 0

-- the lengths of the longest numeral at the start, part by part
pub record Parts : Type 0 where
  pub sign : ℕ
  pub digits : ℕ
  pub fraction : ℕ
  pub exponent : ℕ

unfoldable pub parts : List ℕ → Parts
parts bytes =
    let sign = minus_len bytes in
    let digits = digits_len (drop sign bytes) in
    let fraction = fraction_len (drop (sign + digits) bytes) in
    let exponent = exponent_len (drop (sign + digits + fraction) bytes) in
    record { sign = sign; digits = digits; fraction = fraction; exponent = exponent }

abbrev pub parts_len : Parts → ℕ
parts_len p = p.sign + p.digits + p.fraction + p.exponent

-- these are the parts of the text, and none goes beyond it
abbrev pub ArePartsOf : List ℕ → Parts → Type 0
ArePartsOf text p = (p ≡ parts text) × (parts_len p ≤ length text)

abbrev pub is_some_len : ℕ → Bool
is_some_len zero = false
is_some_len (suc n) = true

abbrev pub parts_hint : Parts → Hint
parts_hint p = hint_by (is_some_len p.sign) (is_some_len p.fraction) (is_some_len p.exponent)

-- the same hint
abbrev pub same_hint : Hint → Hint → Bool
same_hint unsigned unsigned = true
same_hint unsigned signed = false
same_hint unsigned float = false
same_hint signed unsigned = false
same_hint signed signed = true
same_hint signed float = false
same_hint float unsigned = false
same_hint float signed = false
same_hint float float = true

-- a minus or a digit
abbrev pub starts_number : ℕ → Bool
starts_number b = (b == minus) || is_digit b

-- a number, or a minus alone, may begin here
abbrev pub begins_number : List ℕ → Bool
begins_number [] = false
begins_number (b ∷ bytes) = starts_number b

-- nothing but a minus, or nothing
abbrev pub is_bare : Parts → Bool
is_bare p = parts_len p == p.sign

-- the text is a number with that hint
abbrev pub is_number : List ℕ → Hint → Bool
is_number text hint =
    let p = parts text in
    begins_number text && not (is_bare p) && (parts_len p == length text) && same_hint (parts_hint p) hint
