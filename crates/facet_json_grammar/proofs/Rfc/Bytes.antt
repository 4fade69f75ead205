-- What is written of bytes: a string of hexadecimal digits, or an array of numbers.
use Rattle.std.proofs.Common.{◌≡◌, ℕ, ◌<◌, Bool, true, nat_lt, List, [], ◌∷◌, ◌++◌, Option, codes, decimal, refl, arith, append_assoc, ltb-true}
use Rattle.std.specs.List.{list_all}
use Rattle.std.proofs.lemmas.Bool.{and_parts}
use Rattle.facet_format.specs.Bytes.{left_bracket, right_bracket, comma}
use Rattle.facet_json_grammar.specs.Text.{BytesFormat, as_array, as_hex, hex, bytes_text, more_numbers}
use Rattle.facet_json_grammar.specs.RfcText.{InUtf8, IsRfcValue, IsRfcText}
use Rattle.facet_json_grammar.specs.RfcText as rfc
use Rattle.facet_json_grammar.proofs.Scalars.HexTexts.{hex_text-quoted, hex_text-utf8}
use Rattle.facet_json_grammar.proofs.Rfc.Structural.{with_spaces_before, with_spaces_after}
use Rattle.facet_json_grammar.proofs.Rfc.Encoded.{ascii, mapped, joined3}
use Rattle.facet_json_grammar.proofs.Rfc.Values.{ItemsGoOn, items_end, items_go_on, array_of, no_items, value_text}
use Rattle.facet_json_grammar.proofs.Rfc.Numbers.{number-decimal}
use Rattle.facet_json_grammar.proofs.Rfc.Strings.{quoted_is_rfc}

abbrev is_byte : ℕ → Bool
is_byte x = nat_lt x 0x100

hex-string : (all : List ℕ) (limit : Option ℕ) (head tail : ℕ) → list_all is_byte all ≡ true →
    InUtf8 IsRfcValue (bytes_text (as_hex limit head tail) all)
hex-string all limit head tail e =
    let valid = hex_text-utf8 all limit head tail e in
    rw (hex_text-quoted all limit head tail e) (mapped rfc.string (quoted_is_rfc (codes "0x" ++ hex all limit head tail) valid))

-- ---- arrays of numbers

number_text : (n : ℕ) → n < 0x100 → InUtf8 IsRfcText (decimal n)
number_text n small = mapped (λ cs is. value_text cs (rfc.number cs is)) (number-decimal n (omega arith))

numbers-go_on : (all : List ℕ) → list_all is_byte all ≡ true → InUtf8 ItemsGoOn (more_numbers all ++ right_bracket ∷ [])
numbers-go_on [] e = mapped items_end (with_spaces_before right_bracket [] refl refl)
numbers-go_on (b ∷ all) e =
    let parts = and_parts (is_byte b) (list_all is_byte all) e in
    let separator = with_spaces_after comma [] refl refl in
    rw append_assoc (joined3 items_go_on separator (number_text b (ltb-true b 0x100 parts.0)) (numbers-go_on all parts.1))

array-text : (all : List ℕ) → list_all is_byte all ≡ true → InUtf8 IsRfcValue (bytes_text as_array all)
array-text [] e = ascii (left_bracket ∷ right_bracket ∷ []) refl no_items
array-text (b ∷ all) e =
    let parts = and_parts (is_byte b) (list_all is_byte all) e in
    let start = with_spaces_after left_bracket [] refl refl in
    rw append_assoc (joined3 array_of start (number_text b (ltb-true b 0x100 parts.0)) (numbers-go_on all parts.1))

pub value-bytes : (format : BytesFormat) (all : List ℕ) → list_all is_byte all ≡ true → InUtf8 IsRfcValue (bytes_text format all)
value-bytes as_array all e = array-text all e
value-bytes (as_hex limit head tail) all e = hex-string all limit head tail e
