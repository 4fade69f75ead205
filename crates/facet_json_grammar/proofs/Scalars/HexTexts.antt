-- The hexadecimal text of bytes needs no escape, so it is written as one string's token.
use Rattle.std.proofs.Common.{◌≡◌, ℕ, zero, suc, ◌+◌, ◌-◌, ◌/◌, ◌%◌, ◌<◌, Bool, true, not, ◌==◌, ◌&&◌, min, List, [], ◌∷◌, ◌++◌, length, take, drop, flat_map, Option, Some, None, refl, sym, ap, ◌∙◌, arith, take-append-drop}
use Rattle.std.specs.Prelude.{nat_lt, nat_le, codes}
use Rattle.std.specs.Fmt.{decimal}
use Rattle.std.specs.List.{list_all}
use Rattle.std.specs.Str.{is_utf8, IsAscii}
use Rattle.std.proofs.lemmas.Bool.{cond_both, and_from, and_parts, ltb-true}
use Rattle.std.proofs.lemmas.Bool.Decides.{nat_tests}
use Rattle.std.proofs.lemmas.List.Folds.{list_all-append}
use Rattle.std.proofs.lemmas.Str.{IsUtf8-from_ascii, is_utf8-from_IsUtf8}
use Rattle.facet_format.specs.Bytes.{quote, backslash, space, delete, is_digit}
use Rattle.facet_format.specs.Number.{AreDigits}
use Rattle.facet_json_grammar.specs.Quoted.{hex_digit, hex_byte, escaped, quoted}
use Rattle.facet_json_grammar.specs.Text.{as_hex, shortened, hex, bytes_text}
use Rattle.facet_json_grammar.specs.Language.{Rules}
use Rattle.facet_json_grammar.specs.Tree.{text}
use Rattle.facet_json_grammar.proofs.Scalars.OneToken.{IsOneScalar}
use Rattle.facet_json_grammar.proofs.Scalars.QuotedTexts.{quoted-one_scalar}
use Rattle.facet_json_grammar.proofs.Scalars.DecimalDigits.{decimal-digits}

-- a byte of ASCII that is written as it is
abbrev unescaped : ℕ → Bool
unescaped b = nat_le space b && nat_lt b delete && not (b == quote) && not (b == backslash)

-- All bytes are such.
abbrev AllUnescaped : List ℕ → Type 0
AllUnescaped bytes = list_all unescaped bytes ≡ true

-- ---- what they are

-- Such a byte is written as it is.
escaped-itself : (b : ℕ) → unescaped b ≡ true → escaped b ≡ b ∷ []
unfolding escaped
escaped-itself b e = grind (arith, nat_tests)

-- So are such bytes.
escaped-all : (bytes : List ℕ) → AllUnescaped bytes → flat_map escaped bytes ≡ bytes
escaped-all [] all = refl
escaped-all (b ∷ bytes) all =
    let both = and_parts (unescaped b) (list_all unescaped bytes) all in
    ap (λ l. l ++ flat_map escaped bytes) (escaped-itself b both.0) ∙ ap (λ l. b ∷ l) (escaped-all bytes both.1)

-- Such a byte is ASCII.
unescaped-ascii : (b : ℕ) → unescaped b ≡ true → b < 128
unescaped-ascii b e = grind (arith, nat_tests)

-- Such bytes are ASCII.
all-ascii : (bytes : List ℕ) → AllUnescaped bytes → IsAscii bytes
all-ascii [] all i = omega arith
all-ascii (b ∷ bytes) all zero = unescaped-ascii b (and_parts (unescaped b) (list_all unescaped bytes) all).0
all-ascii (b ∷ bytes) all (suc i) = all-ascii bytes (and_parts (unescaped b) (list_all unescaped bytes) all).1 i

-- Such bytes are UTF-8.
all-utf8 : (bytes : List ℕ) → AllUnescaped bytes → is_utf8 bytes ≡ true
all-utf8 bytes all = is_utf8-from_IsUtf8 bytes (IsUtf8-from_ascii bytes (all-ascii bytes all))

-- ---- the parts of a hexadecimal text are such

-- Two lists of such bytes, one after the other.
all-append : (a b : List ℕ) → AllUnescaped a → AllUnescaped b → AllUnescaped (a ++ b)
all-append a b p q = list_all-append unescaped a b ∙ and_from (list_all unescaped a) (list_all unescaped b) p q

-- A hexadecimal digit.
hex_digit-unescaped : (n : ℕ) → n < 16 → unescaped (hex_digit n) ≡ true
hex_digit-unescaped n small =
    cond_both (nat_lt n 10) _ _ (λ d. unescaped d ≡ true) (λ e. grind (arith, nat_tests)) (λ e. grind (arith, nat_tests))

-- all of these are bytes
abbrev AreBytes : List ℕ → Type 0
AreBytes bytes = list_all (λ b. nat_lt b 0x100) bytes ≡ true

-- The digits of bytes.
hex_bytes-unescaped : (bytes : List ℕ) → AreBytes bytes → AllUnescaped (flat_map hex_byte bytes)
hex_bytes-unescaped [] are = refl
hex_bytes-unescaped (b ∷ bytes) are =
    let both = and_parts (nat_lt b 0x100) (list_all (λ x. nat_lt x 0x100) bytes) are in
    let small = ltb-true b 0x100 both.0 in
    let others = hex_bytes-unescaped bytes both.1 in
    and_from (unescaped (hex_digit (b / 16))) _ (hex_digit-unescaped (b / 16) (omega arith))
    (and_from (unescaped (hex_digit (b % 16))) _ (hex_digit-unescaped (b % 16) (omega arith)) others)

-- The first bytes and the last are bytes.
bytes-parts : (n : ℕ) (bytes : List ℕ) → AreBytes bytes → AreBytes (take n bytes) × AreBytes (drop n bytes)
bytes-parts n bytes are =
    let is_byte : ℕ → Bool = λ b. nat_lt b 0x100 in
    let whole : list_all is_byte (take n bytes ++ drop n bytes) ≡ true =
    ap (list_all is_byte) (take-append-drop n bytes) ∙ are in
    and_parts (list_all is_byte (take n bytes)) (list_all is_byte (drop n bytes))
    (sym (list_all-append is_byte (take n bytes) (drop n bytes)) ∙ whole)

-- A digit.
digit-unescaped : (b : ℕ) → is_digit b ≡ true → unescaped b ≡ true
digit-unescaped b e = grind (arith, nat_tests)

-- Digits.
digits-unescaped : (bytes : List ℕ) → AreDigits bytes → AllUnescaped bytes
digits-unescaped _ AreDigits.none = refl
digits-unescaped _ (AreDigits.digit b bytes is are) =
    and_from (unescaped b) (list_all unescaped bytes) (digit-unescaped b is) (digits-unescaped bytes are)

-- A shortened text.
shortened-unescaped : (all : List ℕ) (head tail : ℕ) → AreBytes all → AllUnescaped (shortened all head tail)
shortened-unescaped all head tail are =
    let first = min head (length all) in
    let last = min tail (length all - first) in
    let left_out = length all - first - last in
    let start = flat_map hex_byte (take first all) in
    let end = flat_map hex_byte (drop (first + left_out) all) in
    let number = decimal left_out in
    let a = all-append start (codes "..<") (hex_bytes-unescaped (take first all) (bytes-parts first all are).0) refl in
    let b = all-append (start ++ codes "..<") number a (digits-unescaped number (decimal-digits left_out)) in
    let c = all-append (start ++ codes "..<" ++ number) (codes " bytes>..") b refl in
    all-append (start ++ codes "..<" ++ number ++ codes " bytes>..") end c
    (hex_bytes-unescaped (drop (first + left_out) all) (bytes-parts (first + left_out) all are).1)

-- The hexadecimal text.
hex-unescaped : (all : List ℕ) (limit : Option ℕ) (head tail : ℕ) → AreBytes all → AllUnescaped (hex all limit head tail)
hex-unescaped all None head tail are = hex_bytes-unescaped all are
hex-unescaped all (Some limit) head tail are =
    cond_both (nat_lt limit (length all)) _ _ AllUnescaped (λ e. shortened-unescaped all head tail are)
    (λ e. hex_bytes-unescaped all are)

-- ---- its token

-- What is written of bytes as hexadecimal digits is their text between quotes.
pub hex_text-quoted : (all : List ℕ) (limit : Option ℕ) (head tail : ℕ) → AreBytes all →
    bytes_text (as_hex limit head tail) all ≡ quoted (codes "0x" ++ hex all limit head tail)
hex_text-quoted all limit head tail are =
    ap (λ l. quote ∷ l ++ quote ∷ [])
    (sym (escaped-all (codes "0x" ++ hex all limit head tail) (hex-unescaped all limit head tail are)))

-- This text is UTF-8.
pub hex_text-utf8 : (all : List ℕ) (limit : Option ℕ) (head tail : ℕ) → AreBytes all →
    is_utf8 (codes "0x" ++ hex all limit head tail) ≡ true
hex_text-utf8 all limit head tail are =
    all-utf8 (codes "0x" ++ hex all limit head tail) (hex-unescaped all limit head tail are)

-- It is one scalar's token, which means the text.
pub hex_text-one_scalar : (by : Rules) (all : List ℕ) (limit : Option ℕ) (head tail : ℕ) →
    list_all (λ b. nat_lt b 0x100) all ≡ true →
    IsOneScalar by (bytes_text (as_hex limit head tail) all) (text (codes "0x" ++ hex all limit head tail))
hex_text-one_scalar by all limit head tail are =
    rw (hex_text-quoted all limit head tail are)
    (quoted-one_scalar by (codes "0x" ++ hex all limit head tail) (hex_text-utf8 all limit head tail are))
