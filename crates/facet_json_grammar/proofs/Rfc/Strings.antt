-- What is quoted is a string of RFC 8259.
use Rattle.std.proofs.Common.{◌≡◌, ℕ, ◌<◌, ◌≤◌, ◌/◌, ◌%◌, ◌⊎◌, inl, inr, true, List, [], ◌∷◌, ◌++◌, flat_map, refl, subst, arith, append-nil, le-leb, lt-ltb, le-ltb, ltb-false}
use Rattle.std.specs.Char.{encode_utf8, IsScalar}
use Rattle.std.specs.List.{list_all}
use Rattle.std.specs.Str.{all_scalars, encode_utf8_all}
use lib.Utf8.{scalar}
use Rattle.std.proofs.lemmas.Bool.{and_parts, and_from, cases_lt, agree_below_at}
use Rattle.std.proofs.lemmas.Str.{IsUtf8-from_is_utf8}
use Rattle.facet_format.specs.Bytes.{quote, space}
use Rattle.facet_json_grammar.specs.Quoted.{hex_digit, escaped, quoted}
use Rattle.facet_json_grammar.specs.TextLaws.{escaped_character}
use Rattle.facet_json_grammar.proofs.Writing.QuotedByCharacters.{quoted_by_characters}
use Rattle.facet_json_grammar.specs.RfcText.{InUtf8, is_rfc_unescaped, is_hex_digit, IsRfcContent, empty, unescaped, short, unit, IsRfcString}
use Rattle.facet_json_grammar.proofs.Scalars.EscapedBytes.{Form, by_number, itself, form}
use Rattle.std.proofs.lemmas.Bool.Decides.{nat_tests}
use Rattle.facet_json_grammar.specs.RfcLaws.{QuotedIsRfc}
use Rattle.facet_json_grammar.proofs.Rfc.Leaves.{escape-is_escapable}
use Rattle.facet_json_grammar.proofs.Rfc.Encoded.{is_ascii, ascii, joined, joined3}

-- ---- escapes

-- These characters may stand before any content.
abbrev Begins : List ℕ → Type 0
Begins cs = (others : List ℕ) → IsRfcContent others → IsRfcContent (cs ++ others)

hex_digit-is_digit : (n : ℕ) → n < 16 → is_hex_digit (hex_digit n) ≡ true
hex_digit-is_digit n small = agree_below_at (λ k. is_hex_digit (hex_digit k)) (λ k. true) 16 n refl small

form-begins : (c : ℕ) (first : List ℕ) → c < 0x80 → Form c first → Begins first
form-begins c _ low (Form.short b is) others content = short b others (escape-is_escapable b c is) content
form-begins c _ low (by_number _) others content =
    unit 0x30 0x30 (hex_digit (c / 16)) (hex_digit (c % 16)) others refl refl
    (hex_digit-is_digit (c / 16) (omega arith)) (hex_digit-is_digit (c % 16) (omega arith)) content
form-begins c _ low (itself no_quote no_backslash printed) others content =
    unescaped c others (rw (le-leb 0x20 c (ltb-false c space printed), no_quote, no_backslash)) content

escaped-ascii : (c : ℕ) → c < 0x80 → list_all is_ascii (escaped c) ≡ true
unfolding escaped
escaped-ascii c low = agree_below_at (λ k. list_all is_ascii (escaped k)) (λ k. true) 0x80 c refl low

-- ---- strings

character-begins : (c : ℕ) → IsScalar c → InUtf8 Begins (escaped_character c)
character-begins c is = by (cases_lt c 0x80)
  where
    is_other : 0x80 ≤ c → is_rfc_unescaped c ≡ true
    is_other high = grind (arith, nat_tests)

    by : (c < 0x80) ⊎ (0x80 ≤ c) → InUtf8 Begins (escaped_character c)
    by (inl low) = rw (lt-ltb c 0x80 low) (ascii {P = Begins} (escaped c) (escaped-ascii c low) (form-begins c (escaped c) low (form c)))
    by (inr high) = rw (le-ltb c 0x80 high) record {
      characters = c ∷ [];
      are_scalars = and_from (scalar c) _ is refl;
      encoded = append-nil (encode_utf8 c);
      such = λ others content. unescaped c others (is_other high) content;
    }

-- Characters as they are written are a content.
pub content-characters : (cs : List ℕ) → all_scalars cs ≡ true → InUtf8 IsRfcContent (flat_map escaped_character cs)
content-characters [] e = ascii [] refl empty
content-characters (c ∷ cs) e =
    let parts = and_parts (scalar c) (all_scalars cs) e in
    joined {P = Begins} (λ a b p q. p b q) (character-begins c parts.0) (content-characters cs parts.1)

string_of : (a content c : List ℕ) → a ≡ quote ∷ [] → IsRfcContent content → c ≡ quote ∷ [] → IsRfcString (a ++ content ++ c)
string_of a content c first is last = record { content = content; is_content = is; quoted = rw (first, last) }

-- A content between quotes is a string.
between_quotes : (bytes : List ℕ) → InUtf8 IsRfcContent bytes → InUtf8 IsRfcString (quote ∷ bytes ++ quote ∷ [])
between_quotes bytes content =
    let mark : InUtf8 (λ cs. cs ≡ quote ∷ []) (quote ∷ []) = ascii (quote ∷ []) refl refl in
    joined3 string_of mark content mark

pub quoted-characters : (cs : List ℕ) → all_scalars cs ≡ true → InUtf8 IsRfcString (quoted (encode_utf8_all cs))
quoted-characters cs are = rw (quoted_by_characters cs are) (between_quotes _ (content-characters cs are))

pub quoted-character : (c : ℕ) → IsScalar c → InUtf8 IsRfcString (quoted (encode_utf8 c))
quoted-character c is =
    subst (λ t. InUtf8 IsRfcString (quoted t)) (append-nil (encode_utf8 c)) (quoted-characters (c ∷ []) (and_from (scalar c) _ is refl))

-- A text in UTF-8 is quoted as a string.
pub quoted_is_rfc : QuotedIsRfc
quoted_is_rfc t valid =
    let text = IsUtf8-from_is_utf8 t valid in
    subst (λ u. InUtf8 IsRfcString (quoted u)) text.1.1 (quoted-characters text.0 text.1.0)
