-- Texts of RFC 8259 (sections 2 to 8), rule by rule as its grammar has them. They are lists of characters, each of which is its number;
-- `InUtf8` says which bytes they are. Nothing of the reader is used here: the grammar knows no tokens, and each character that it names is
-- written anew, so that what is wrong on one side is seen on the other.
use Rattle.std.specs.Prelude.{◌≡◌, ℕ, Bool, true, not, ◌==◌, ◌&&◌, ◌||◌, nat_le, List, [], ◌∷◌, ◌++◌, codes}
use Rattle.std.specs.List.{list_all}
use Rattle.std.specs.Str.{all_scalars, encode_utf8_all}
use Rattle.facet_json_token.specs.RfcNumber.{is_rfc_digit}
pub use Rattle.facet_json_token.specs.RfcNumber.{is_first_digit, SomeDigits, IsRfcWhole, nought, IsRfcFraction, IsRfcExponent, IsRfcNumber}

-- ---- section 2: white space and structural characters

-- a space, a tab, a line feed or a carriage return
abbrev pub is_rfc_space : ℕ → Bool
is_rfc_space c = (c == 0x20) || (c == 0x09) || (c == 0x0a) || (c == 0x0d)

abbrev pub AreSpaces : List ℕ → Type 0
AreSpaces characters = list_all is_rfc_space characters ≡ true

-- such characters, with white space alone around them
pub record Spaced (P : List ℕ → Type 0) (characters : List ℕ) : Type 0 where
  pub before : List ℕ
  pub inside : List ℕ
  pub after : List ℕ
  pub spaces_before : AreSpaces before
  pub such : P inside
  pub spaces_after : AreSpaces after
  pub whole : characters ≡ before ++ inside ++ after

-- `[`, `]`, `{`, `}`, `:` and `,`
abbrev pub begin_array : ℕ
begin_array = 0x5b

abbrev pub end_array : ℕ
end_array = 0x5d

abbrev pub begin_object : ℕ
begin_object = 0x7b

abbrev pub end_object : ℕ
end_object = 0x7d

abbrev pub name_separator : ℕ
name_separator = 0x3a

abbrev pub value_separator : ℕ
value_separator = 0x2c

-- one of these six structural characters
abbrev pub IsRfcStructural : ℕ → List ℕ → Type 0
IsRfcStructural c = Spaced (λ inside. inside ≡ c ∷ [])

-- Section 6, numbers, stands in `RfcNumber` of facet_json_strict.

-- ---- section 7: strings

abbrev pub quotation_mark : ℕ
quotation_mark = 0x22

-- a backslash
abbrev pub escape : ℕ
escape = 0x5c

-- a character that may stand for itself: from U+0020 on, and neither quotation mark nor backslash
abbrev pub is_rfc_unescaped : ℕ → Bool
is_rfc_unescaped c = nat_le 0x20 c && not (c == quotation_mark) && not (c == escape)

-- a quotation mark, a backslash, a slash, or one of `b`, `f`, `n`, `r` and `t`
abbrev pub is_escapable : ℕ → Bool
is_escapable c =
    (c == quotation_mark) || (c == escape) || (c == 0x2f) || (c == 0x62) || (c == 0x66) || (c == 0x6e) || (c == 0x72) || (c == 0x74)

-- a hexadecimal digit of either case
abbrev pub is_hex_digit : ℕ → Bool
is_hex_digit c = is_rfc_digit c || (nat_le 0x41 c && nat_le c 0x46) || (nat_le 0x61 c && nat_le c 0x66)

-- what stands between the quotation marks: such characters, the eight short escapes, and `\u` with four hexadecimal digits
pub data IsRfcContent : List ℕ → Type 0 where
  empty : IsRfcContent []
  unescaped : (c : ℕ) (others : List ℕ) → is_rfc_unescaped c ≡ true → IsRfcContent others → IsRfcContent (c ∷ others)
  short : (c : ℕ) (others : List ℕ) → is_escapable c ≡ true → IsRfcContent others → IsRfcContent (escape ∷ c ∷ others)
  unit : (a b c d : ℕ) (others : List ℕ) → is_hex_digit a ≡ true → is_hex_digit b ≡ true → is_hex_digit c ≡ true → is_hex_digit d ≡ true →
      IsRfcContent others → IsRfcContent (escape ∷ 0x75 ∷ a ∷ b ∷ c ∷ d ∷ others)

pub record IsRfcString (characters : List ℕ) : Type 0 where
  pub content : List ℕ
  pub is_content : IsRfcContent content
  pub quoted : characters ≡ quotation_mark ∷ content ++ quotation_mark ∷ []

-- ---- sections 3 to 5: values, objects and arrays

-- these characters between two structural ones
pub record IsEnclosed (open_character close_character : ℕ) (inside characters : List ℕ) : Type 0 where
  pub start : List ℕ
  pub finish : List ℕ
  pub opens : IsRfcStructural open_character start
  pub closes : IsRfcStructural close_character finish
  pub whole : characters ≡ start ++ inside ++ finish

mutual
  -- a value whose numbers are N and whose strings are S
  pub data IsValueOf (N S : List ℕ → Type 0) : List ℕ → Type 0 where
    literal_false : IsValueOf N S (codes "false")
    literal_null : IsValueOf N S (codes "null")
    literal_true : IsValueOf N S (codes "true")
    number : (characters : List ℕ) → N characters → IsValueOf N S characters
    string : (characters : List ℕ) → S characters → IsValueOf N S characters
    empty_array : (characters : List ℕ) → IsEnclosed begin_array end_array [] characters → IsValueOf N S characters
    array : (inside characters : List ℕ) → AreItemsOf N S inside → IsEnclosed begin_array end_array inside characters →
        IsValueOf N S characters
    empty_object : (characters : List ℕ) → IsEnclosed begin_object end_object [] characters → IsValueOf N S characters
    object : (inside characters : List ℕ) → AreMembersOf N S inside → IsEnclosed begin_object end_object inside characters →
        IsValueOf N S characters

  -- values, separated by commas
  pub data AreItemsOf (N S : List ℕ → Type 0) : List ℕ → Type 0 where
    one_item : (value : List ℕ) → IsValueOf N S value → AreItemsOf N S value
    more_items : (value separator others characters : List ℕ) → IsValueOf N S value → IsRfcStructural value_separator separator →
        AreItemsOf N S others → characters ≡ value ++ separator ++ others → AreItemsOf N S characters

  -- members, separated by commas
  pub data AreMembersOf (N S : List ℕ → Type 0) : List ℕ → Type 0 where
    one_member : (member : List ℕ) → IsMemberOf N S member → AreMembersOf N S member
    more_members : (member separator others characters : List ℕ) → IsMemberOf N S member → IsRfcStructural value_separator separator →
        AreMembersOf N S others → characters ≡ member ++ separator ++ others → AreMembersOf N S characters

  -- a string, a colon and a value
  pub data IsMemberOf (N S : List ℕ → Type 0) : List ℕ → Type 0 where
    member : (key separator value characters : List ℕ) → S key → IsRfcStructural name_separator separator → IsValueOf N S value →
        characters ≡ key ++ separator ++ value → IsMemberOf N S characters

abbrev pub IsRfcValue : List ℕ → Type 0
IsRfcValue = IsValueOf IsRfcNumber IsRfcString

abbrev pub AreItems : List ℕ → Type 0
AreItems = AreItemsOf IsRfcNumber IsRfcString

abbrev pub AreMembers : List ℕ → Type 0
AreMembers = AreMembersOf IsRfcNumber IsRfcString

abbrev pub IsMember : List ℕ → Type 0
IsMember = IsMemberOf IsRfcNumber IsRfcString

-- a text: a value, with white space alone around it
abbrev pub IsRfcText : List ℕ → Type 0
IsRfcText = Spaced IsRfcValue

-- ---- section 8.1: UTF-8

-- The bytes are the UTF-8 of such characters.
pub record InUtf8 (P : List ℕ → Type 0) (bytes : List ℕ) : Type 0 where
  pub characters : List ℕ
  pub are_scalars : all_scalars characters ≡ true
  pub encoded : encode_utf8_all characters ≡ bytes
  pub such : P characters
