-- What is written of a text decodes to the text alone, and between quotes it is one string's token.
use Rattle.std.proofs.Common.{◌≡◌, ℕ, suc, ◌+◌, ◌/◌, ◌%◌, ◌<◌, true, List, [], ◌∷◌, ◌++◌, length, flat_map, Some, None, refl, sym, ap, ◌∙◌, subst, arith, length-append, append_assoc}
use Rattle.std.specs.Prelude.{false, nat_lt, slice_range, IsUtf8}
use Rattle.std.specs.Char.{digit_value, encode_utf8, IsScalar}
use Rattle.std.specs.Option.{option_map}
use Rattle.std.specs.Str.{all_scalars, encode_utf8_all, is_utf8}
use Rattle.std.proofs.Math.Utf8.{scalar}
use Rattle.std.proofs.lemmas.Bool.{cond_both, and_parts, ltb-true, ltb-false, ne_eqb}
use Rattle.std.proofs.lemmas.Bool.Decides.{nat_tests}
use Rattle.std.proofs.lemmas.Str.{encode_ascii, IsUtf8-encode, IsUtf8-from_is_utf8, is_utf8-from_IsUtf8}
use Rattle.facet_format.specs.Bytes.{quote, backslash}
use Rattle.facet_format.specs.Span.{span_at}
use Rattle.facet_json_token.specs.Shape.{IsShape}
use Rattle.facet_json_token.specs.Token.{string}
use Rattle.facet_json_token.specs.Decode.{code_unit, Piece, Decodes, empty, piece}
use Rattle.facet_json_token.specs.Decoded.{decoded}
use Rattle.facet_json_token.specs.Decode as decode
use Rattle.facet_json_token.proofs.DecodeLaws.{decoded-decodes}
use Rattle.facet_json_token.specs.Strict.{wrong_at, content_fault}
use Rattle.facet_json_grammar.specs.Language.{Rules}
use Rattle.facet_json_grammar.specs.Quoted.{hex_digit, escaped, quoted}
use Rattle.facet_json_grammar.specs.TextLaws.{escaped_character}
use Rattle.facet_json_grammar.specs.Tree.{text}
use Rattle.facet_json_grammar.proofs.Writing.QuotedByCharacters.{escaped-characters}
use Rattle.facet_json_grammar.proofs.Runs.SpelledRuns.{string-is_scalar}
use Rattle.facet_json_grammar.specs.ReadBack.{QuotedDecodesAlone}
use Rattle.facet_json_grammar.proofs.Rfc.StrictStrings.{Stands, rfc-content}
use Rattle.facet_json_grammar.proofs.Rfc.Strings.{content-characters}
use Rattle.facet_json_grammar.proofs.Scalars.EscapedBytes.{Form, short, by_number, itself, form}
use Rattle.facet_json_grammar.proofs.Scalars.OneToken.{token-by, IsOneScalar, IsOneString}
use Rattle.facet_json_grammar.proofs.Cuts.ShapesBetween.{range-between, shape-is_cut}

-- ---- a character

-- A hexadecimal digit is read as it is written.
digit_value-hex_digit : (n : ℕ) → n < 16 → digit_value (hex_digit n) ≡ n
digit_value-hex_digit n small = grind (arith, nat_tests)

-- Two digits of a byte after two zeros spell the byte.
code_unit-byte : (b : ℕ) → b < 128 → code_unit 0x30 0x30 (hex_digit (b / 16)) (hex_digit (b % 16)) ≡ Some b
unfolding code_unit
code_unit-byte b small =
    let high = digit_value-hex_digit (b / 16) (omega arith) in
    let low = digit_value-hex_digit (b % 16) (omega arith) in
    rw (high, low) (grind (arith, nat_tests))

-- A form in which an ASCII character is written is a piece that stands for it.
form-piece : (c : ℕ) (first : List ℕ) → c < 128 → Form c first → Piece first c
form-piece c _ small (short b is) = decode.short b c is
form-piece c _ small (by_number _) =
    decode.unit 0x30 0x30 _ _ c (code_unit-byte c small) (grind (arith, nat_tests)) (grind (arith, nat_tests))
form-piece c _ small (itself no_quote no_backslash _) =
    rw (encode_ascii c small) at (decode.itself c (grind (arith, nat_tests)) no_backslash)

-- A character as it is written is a piece that stands for it.
character-piece : (c : ℕ) → IsScalar c → Piece (escaped_character c) c
character-piece c is =
    cond_both (nat_lt c 0x80) _ _ (λ l. Piece l c) (λ e. form-piece c (escaped c) (ltb-true c 0x80 e) (form c))
    (λ e. let large = ltb-false c 0x80 e in decode.itself c is (ne_eqb c backslash (λ same. omega arith)))

-- ---- a text

-- Characters as they are written stand for their text.
decodes-characters : (cs : List ℕ) → all_scalars cs ≡ true →
    Decodes (flat_map escaped_character cs) (encode_utf8_all cs)
decodes-characters [] are = empty
decodes-characters (c ∷ cs) are =
    let is = and_parts (scalar c) (all_scalars cs) are in
    piece (escaped_character c) (flat_map escaped_character cs) _ c (encode_utf8_all cs) _ (character-piece c is.0)
    (decodes-characters cs is.1) refl refl

-- What is written of a text stands for the text.
decodes-escaped : (t : List ℕ) → IsUtf8 t → Decodes (flat_map escaped t) t
decodes-escaped t is =
    subst (λ l. Decodes (flat_map escaped l) l) is.1.1
    (rw (escaped-characters is.0) (decodes-characters is.0 is.1.0))

-- What is written of a text decodes to the text alone.
pub quoted_decodes_alone : QuotedDecodesAlone
quoted_decodes_alone t is =
    let own = decodes-escaped t (IsUtf8-from_is_utf8 t is) in
    let found = decoded-decodes (flat_map escaped t) t own in
    (own, λ u other. let also = decoded-decodes (flat_map escaped t) u other in cc)

-- ---- its token

-- What stands between the quotes of a string between other bytes, as a range.
content-range : (before content after : List ℕ) →
    slice_range (before ++ (quote ∷ content ++ quote ∷ []) ++ after) (suc (length before)) (suc (length before) + length content)
    ≡ content
content-range before content after =
    let at = length before in
    let last = content ++ quote ∷ after in
    let whole : before ++ (quote ∷ content ++ quote ∷ []) ++ after ≡ before ++ quote ∷ [] ++ content ++ (quote ∷ after) =
    append_assoc before (quote ∷ content ++ quote ∷ []) after
    ∙ ap (λ l. before ++ (quote ∷ l)) (append_assoc content (quote ∷ []) after)
    ∙ sym (append_assoc before (quote ∷ []) last) ∙ sym (append_assoc (before ++ quote ∷ []) content (quote ∷ after)) in
    ap (λ l. slice_range l (suc at) (suc at + length content)) whole
    ∙ range-between (before ++ quote ∷ []) content (quote ∷ after) (suc at) (suc at + length content)
    (omega (arith, length-append before (quote ∷ []))) refl

-- Where nothing is wrong with a content, there is no fault.
no_fault : (start : ℕ) (content : List ℕ) → wrong_at false content ≡ None → content_fault start content ≡ None
no_fault start content right = rw right refl

-- Between quotes a content of RFC 8259 that has a text is one string's token, which means the text.
pub content-one_string : (content t : List ℕ) → Decodes content t → Stands content → IsOneString (quote ∷ content ++ quote ∷ []) t
content-one_string content t decodes stands before after =
    let at = length before in
    let kind = string (suc at) (suc at + length content) stands.mark in
    let there = content-range before content after in (
      record { kind = kind; span = span_at at (length (quote ∷ content ++ quote ∷ [])) },
      shape-is_cut before (quote ∷ content ++ quote ∷ []) after kind (IsShape.text content after stands.mark stands.pieces),
      refl,
      ap (λ l. option_map text (decoded l)) there ∙ ap (option_map text) (decoded-decodes content t decodes),
      ap (content_fault (suc at)) there ∙ no_fault (suc at) content stands.right,
    )

-- What is written of a text is a content of RFC 8259.
escaped-stands : (t : List ℕ) → IsUtf8 t → Stands (flat_map escaped t)
escaped-stands t is =
    let content = content-characters is.0 is.1.0 in
    let written = subst Stands content.encoded (rfc-content content.characters content.such) in
    subst (λ l. Stands (flat_map escaped l)) is.1.1 (rw (escaped-characters is.0) written)

-- A quoted text is one string's token, which means the text.
pub quoted-one_string : (t : List ℕ) → is_utf8 t ≡ true → IsOneString (quoted t) t
quoted-one_string t is =
    let valid = IsUtf8-from_is_utf8 t is in
    content-one_string (flat_map escaped t) t (decodes-escaped t valid) (escaped-stands t valid)

-- ---- as a scalar

-- One string's token is one scalar's.
pub string-one_scalar : (by : Rules) (bytes content : List ℕ) → IsOneString bytes content → IsOneScalar by bytes (text content)
string-one_scalar by bytes content is before after ends =
    let one = is before after in
    (one.0, one.1, string-is_scalar one.0.kind one.2, one.3, token-by by (before ++ bytes ++ after) one.0 one.4)

-- A quoted text is one scalar's token, which means the text.
pub quoted-one_scalar : (by : Rules) (t : List ℕ) → is_utf8 t ≡ true → IsOneScalar by (quoted t) (text t)
quoted-one_scalar by t is = string-one_scalar by (quoted t) t (quoted-one_string t is)

-- So is a quoted character, which means its text.
pub char-one_scalar : (by : Rules) (c : ℕ) → IsScalar c → IsOneScalar by (quoted (encode_utf8 c)) (text (encode_utf8 c))
char-one_scalar by c is = quoted-one_scalar by (encode_utf8 c) (is_utf8-from_IsUtf8 (encode_utf8 c) (IsUtf8-encode c is))
