-- Numbers of RFC 8259 (section 6), rule by rule as its grammar has them. They are lists of characters, each of which is its number. Nothing of
-- the reader is used here: what digits, signs and marks are is written anew, so that what is wrong on one side is seen on the other.
use Rattle.std.specs.Prelude.{◌≡◌, ℕ, Bool, true, nat_le, ◌==◌, ◌&&◌, ◌||◌, List, [], ◌∷◌, ◌++◌}

-- from 0 to 9
abbrev pub is_rfc_digit : ℕ → Bool
is_rfc_digit c = nat_le 0x30 c && nat_le c 0x39

-- from 1 to 9
abbrev pub is_first_digit : ℕ → Bool
is_first_digit c = nat_le 0x31 c && nat_le c 0x39

-- `e` or `E`
abbrev pub is_rfc_exponent_mark : ℕ → Bool
is_rfc_exponent_mark c = (c == 0x65) || (c == 0x45)

pub data AreRfcDigits : List ℕ → Type 0 where
  none : AreRfcDigits []
  digit : (c : ℕ) (others : List ℕ) → is_rfc_digit c ≡ true → AreRfcDigits others → AreRfcDigits (c ∷ others)

-- at least one digit
pub data SomeDigits : List ℕ → Type 0 where
  digits : (c : ℕ) (others : List ℕ) → is_rfc_digit c ≡ true → AreRfcDigits others → SomeDigits (c ∷ others)

-- perhaps `-`
pub data IsRfcMinus : List ℕ → Type 0 where
  absent : IsRfcMinus []
  present : IsRfcMinus (0x2d ∷ [])

-- the digit 0, or digits of which the first is another
pub data IsRfcWhole : List ℕ → Type 0 where
  nought : IsRfcWhole (0x30 ∷ [])
  digits : (c : ℕ) (others : List ℕ) → is_first_digit c ≡ true → AreRfcDigits others → IsRfcWhole (c ∷ others)

-- perhaps a point and digits
pub data IsRfcFraction : List ℕ → Type 0 where
  absent : IsRfcFraction []
  present : (digits : List ℕ) → SomeDigits digits → IsRfcFraction (0x2e ∷ digits)

-- perhaps `-` or `+`
pub data IsRfcExponentSign : List ℕ → Type 0 where
  absent : IsRfcExponentSign []
  minus : IsRfcExponentSign (0x2d ∷ [])
  plus : IsRfcExponentSign (0x2b ∷ [])

-- perhaps a mark, perhaps a sign, and digits
pub data IsRfcExponent : List ℕ → Type 0 where
  absent : IsRfcExponent []
  present : (mark : ℕ) (sign digits others : List ℕ) → is_rfc_exponent_mark mark ≡ true → IsRfcExponentSign sign → SomeDigits digits →
      others ≡ sign ++ digits → IsRfcExponent (mark ∷ others)

-- as -0.5e+1
pub record IsRfcNumber (characters : List ℕ) : Type 0 where
  pub sign : List ℕ
  pub whole : List ℕ
  pub fraction : List ℕ
  pub exponent : List ℕ
  pub is_minus : IsRfcMinus sign
  pub is_whole : IsRfcWhole whole
  pub is_fraction : IsRfcFraction fraction
  pub is_exponent : IsRfcExponent exponent
  pub parts : characters ≡ sign ++ whole ++ fraction ++ exponent
