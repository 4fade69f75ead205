-- The script of `drive`: the words of calls, separated by single commas, as `next,events:2,restore:1`.
use Rattle.std.specs.Prelude.{◌≡◌, ◌<◌, ◌^◌, ℕ, List, [], ◌∷◌, ◌++◌, codes}
use Rattle.std.specs.Str.Parse.{IsNumeral, digits_value}
use Rattle.facet_format.specs.Bytes.{comma}
use Rattle.facet_format.specs.Cursor.{Call, next, peek, events, skip, capture, save, restore, span}

-- The text is one or more decimal digits, without a sign, of this number, which is below 2^64.
pub record IsPointNumber (text : List ℕ) (number : ℕ) : Type 0 where
  pub numeral : IsNumeral 10 text
  pub value : digits_value 10 text ≡ number
  pub fits : number < 2 ^ 64

-- The word is the name, and then the number: `events:2`
abbrev pub IsNumbered : List ℕ → List ℕ → ℕ → Type 0
IsNumbered name word number = (digits : List ℕ) × (word ≡ name ++ digits) × IsPointNumber digits number

-- The call's word
abbrev pub IsWordOf : Call → List ℕ → Type 0
IsWordOf next word = word ≡ codes "next"
IsWordOf peek word = word ≡ codes "peek"
IsWordOf (events limit) word = IsNumbered (codes "events:") word limit
IsWordOf skip word = word ≡ codes "skip"
IsWordOf capture word = word ≡ codes "capture"
IsWordOf save word = word ≡ codes "save"
IsWordOf (restore point) word = IsNumbered (codes "restore:") word point
IsWordOf span word = word ≡ codes "span"

-- The text is the words of these calls, one or more, separated by single commas.
pub data IsScript : List ℕ → List Call → Type 0 where
  one_word : (text : List ℕ) (call : Call) → IsWordOf call text → IsScript text (call ∷ [])
  word_first : (text word rest : List ℕ) (call : Call) (calls : List Call) → text ≡ word ++ (comma ∷ rest) →
      IsWordOf call word → IsScript rest calls → IsScript text (call ∷ calls)
