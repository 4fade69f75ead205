-- The texts of RFC 8259 that this library reads where it reads no others: all whose strings have a text and whose whole numbers lie within
-- 128 bits (sections 6 and 8.2 leave both to the reader).
use Rattle.std.specs.Prelude.{◌≡◌, ℕ, List, [], ◌∷◌, ◌++◌, Some}
use Rattle.std.specs.Str.{encode_utf8_all}
use Rattle.facet_format.specs.Number.{Hint}
use Rattle.facet_format.specs.NumberValue.{Number, number}
use Rattle.facet_json_token.specs.Decode.{Decodes}
use Rattle.facet_json_grammar.specs.RfcText.{quotation_mark, IsRfcContent, IsValueOf, Spaced}
use Rattle.facet_json_token.specs.RfcNumber.{IsRfcNumber}

-- a number of RFC 8259 that has a value
pub record IsReadableNumber (characters : List ℕ) : Type 0 where
  pub is_number : IsRfcNumber characters
  pub hint : Hint
  pub value : Number
  pub has_value : number characters hint ≡ Some value

-- a string of RFC 8259 that has a text: each high surrogate is followed by a low one
pub record IsReadableString (characters : List ℕ) : Type 0 where
  pub content : List ℕ
  pub text : List ℕ
  pub is_content : IsRfcContent content
  pub has_text : Decodes (encode_utf8_all content) text
  pub quoted : characters ≡ quotation_mark ∷ content ++ quotation_mark ∷ []

abbrev pub IsReadableValue : List ℕ → Type 0
IsReadableValue = IsValueOf IsReadableNumber IsReadableString

abbrev pub IsReadableText : List ℕ → Type 0
IsReadableText = Spaced IsReadableValue
