-- Numbers (RFC 8259, section 6), read leniently: each run of digits may be empty, and leading zeros may stand.
use Rattle.std.specs.Prelude.{◌≡◌, ◌≢◌, ℕ, Bool, true, false, List, [], ◌∷◌, ◌++◌}
use Rattle.facet_format.specs.Bytes.{is_digit, is_exponent_mark, is_sign, minus, dot}

-- what stands in a number: digits alone, a minus but neither dot nor exponent mark, or one of these
pub data Hint : Type 0 where
  unsigned : Hint
  signed : Hint
  float : Hint

-- ---- what a number is

-- digits, perhaps none
pub data AreDigits : List ℕ → Type 0 where
  none : AreDigits []
  digit : (b : ℕ) (bytes : List ℕ) → is_digit b ≡ true → AreDigits bytes → AreDigits (b ∷ bytes)

-- a minus or nothing
pub data IsMinus : List ℕ → Bool → Type 0 where
  absent : IsMinus [] false
  present : IsMinus (minus ∷ []) true

-- a dot and digits, or nothing
pub data IsFraction : List ℕ → Bool → Type 0 where
  absent : IsFraction [] false
  present : (digits : List ℕ) → AreDigits digits → IsFraction (dot ∷ digits) true

-- the sign of an exponent, or nothing
pub data IsExponentSign : List ℕ → Type 0 where
  absent : IsExponentSign []
  present : (b : ℕ) → is_sign b ≡ true → IsExponentSign (b ∷ [])

-- an exponent mark, perhaps a sign, and digits, or nothing
pub data IsExponent : List ℕ → Bool → Type 0 where
  absent : IsExponent [] false
  present : (mark : ℕ) (sign digits : List ℕ) → is_exponent_mark mark ≡ true → IsExponentSign sign →
      AreDigits digits → IsExponent (mark ∷ sign ++ digits) true

abbrev pub hint_by : Bool → Bool → Bool → Hint
hint_by has_minus true has_exponent = float
hint_by has_minus false true = float
hint_by true false false = signed
hint_by false false false = unsigned

-- The bytes are a minus, digits, a fraction and an exponent, each of which may be missing, the hint says which stand there,
-- and the bytes start with a minus or a digit.
pub record IsNumeral (bytes : List ℕ) (hint : Hint) : Type 0 where
  pub sign : List ℕ
  pub digits : List ℕ
  pub fraction : List ℕ
  pub exponent : List ℕ
  pub has_minus : Bool
  pub has_fraction : Bool
  pub has_exponent : Bool
  pub is_minus : IsMinus sign has_minus
  pub are_digits : AreDigits digits
  pub is_fraction : IsFraction fraction has_fraction
  pub is_exponent : IsExponent exponent has_exponent
  pub whole : bytes ≡ sign ++ digits ++ fraction ++ exponent
  pub starts : sign ++ digits ≢ []
  pub kind : hint ≡ hint_by has_minus has_fraction has_exponent

-- The bytes are a number: a minus alone is none.
pub record IsNumber (bytes : List ℕ) (hint : Hint) : Type 0 where
  pub numeral : IsNumeral bytes hint
  pub more : bytes ≢ minus ∷ []
