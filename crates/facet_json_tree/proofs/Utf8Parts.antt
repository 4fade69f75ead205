-- Parts of a text that are UTF-8: digits, escapes, texts between quotes, layout.
use Rattle.std.proofs.Common.{◌≡◌, ℕ, zero, suc, ◌+◌, ◌-◌, ◌/◌, ◌%◌, ◌<◌, Bool, true, false, cond, ◌&&◌, nat_lt, List, [], ◌∷◌, ◌++◌, length, take, drop, Option, Some, None, codes, inl, inr, refl, sym, subst, arith, ltb-true}
use Rattle.std.specs.Prelude.{IsUtf8, ◌==◌, ℤ, pos, negsuc, min}
use Rattle.std.specs.List.{flat_map, list_all}
use Rattle.std.specs.Str.{all_scalars}
use Rattle.std.specs.Fmt.{decimal, signed_decimal, digits, digits_onto, digit_glyph}
use Rattle.std.proofs.lemmas.Bool.{and_parts, cases_lt, cases_eq, lt-ltb, le-ltb}
use Rattle.std.proofs.lemmas.Bool.Decides.{nat_tests}
use Rattle.std.proofs.lemmas.Str.{IsUtf8-append, IsUtf8-nil, IsUtf8-encode}
use Rattle.facet_format.specs.Bytes.{quote}
use Rattle.facet_format.proofs.AsciiTexts.{ascii-before}
use Rattle.facet_json_grammar.specs.Quoted.{escaped, quoted, hex_digit, hex_byte}
use Rattle.facet_json_grammar.specs.Text.{BytesFormat, as_array, as_hex, Options, more_numbers, numbers, shortened, hex, bytes_text, indents, new_line, separator, line_at_end, colon_text, bool_text}
use Rattle.facet_json_grammar.specs.TextLaws.{escaped_character}
use Rattle.facet_json_grammar.proofs.Writing.QuotedByCharacters.{quoted_by_characters}

-- one text or another
either-IsUtf8 : (b : Bool) (xs ys : List ℕ) → IsUtf8 xs → IsUtf8 ys → IsUtf8 (cond b xs ys)
either-IsUtf8 true xs ys one other = one
either-IsUtf8 false xs ys one other = other

-- ---- ASCII

abbrev pub are_ascii : List ℕ → Bool
are_ascii bytes = list_all (λ b. nat_lt b 128) bytes

-- ASCII is UTF-8
pub ascii-IsUtf8 : (bytes : List ℕ) → are_ascii bytes ≡ true → IsUtf8 bytes
ascii-IsUtf8 [] e = IsUtf8-nil
ascii-IsUtf8 (b ∷ bytes) e =
    let p = and_parts (nat_lt b 128) (are_ascii bytes) e in ascii-before b bytes (ltb-true b 128 p.0) (ascii-IsUtf8 bytes p.1)

-- ---- whole numbers

glyph-ascii : (d : ℕ) → d < 16 → digit_glyph false d < 128
glyph-ascii d small = grind (arith, nat_tests)

digits_onto-IsUtf8 : (k n : ℕ) (after : List ℕ) → IsUtf8 after → IsUtf8 (digits_onto k 10 false n after)
digits_onto-IsUtf8 zero n after is = is
digits_onto-IsUtf8 (suc k) n after is =
    let more = ascii-before (digit_glyph false (n % 10)) after (glyph-ascii (n % 10) (omega arith)) is in
    either-IsUtf8 (n / 10 == 0) _ _ more (digits_onto-IsUtf8 k (n / 10) _ more)

-- decimal digits
pub decimal-IsUtf8 : (n : ℕ) → IsUtf8 (decimal n)
unfolding digits
decimal-IsUtf8 n = digits_onto-IsUtf8 64 n [] IsUtf8-nil

-- after a minus where the number is negative
pub signed-IsUtf8 : (n : ℤ) → IsUtf8 (signed_decimal n)
signed-IsUtf8 (pos n) = decimal-IsUtf8 n
signed-IsUtf8 (negsuc n) = ascii-before 45 (decimal (suc n)) (omega arith) (decimal-IsUtf8 (suc n))

-- ---- texts between quotes

-- the escapes of the bytes below n are ASCII
abbrev escapes_below : ℕ → Bool
escapes_below zero = true
escapes_below (suc n) = are_ascii (escaped n) && escapes_below n

escape_below : (n : ℕ) → escapes_below n ≡ true → (b : ℕ) → b < n → are_ascii (escaped b) ≡ true
escape_below zero e b h = absurd (omega arith)
escape_below (suc n) e b h =
    let p = and_parts (are_ascii (escaped n)) (escapes_below n) e in
    elim (cases_eq b n) [ inl same ↦ rw same p.0 | inr other ↦ escape_below n p.1 b (omega arith) ]

all_ascii : escapes_below 128 ≡ true
unfolding escaped
all_ascii = refl

-- what stands for one character
character-IsUtf8 : (c : ℕ) → all_scalars (c ∷ []) ≡ true → IsUtf8 (escaped_character c)
character-IsUtf8 c is = elim (cases_lt c 128) [
  | inl small ↦ rw (lt-ltb c 128 small) (ascii-IsUtf8 (escaped c) (escape_below 128 all_ascii c small))
  | inr large ↦ rw (le-ltb c 128 large) (IsUtf8-encode c (and_parts _ _ is).0)
]

characters-IsUtf8 : (cs : List ℕ) → all_scalars cs ≡ true → IsUtf8 (flat_map escaped_character cs)
characters-IsUtf8 [] e = IsUtf8-nil
characters-IsUtf8 (c ∷ cs) e =
    let p = and_parts _ (all_scalars cs) e in
    IsUtf8-append (escaped_character c) (flat_map escaped_character cs) (character-IsUtf8 c (rw p.0 refl)) (characters-IsUtf8 cs p.1)

-- a text between quotes
pub quoted-IsUtf8 : (t : List ℕ) → IsUtf8 t → IsUtf8 (quoted t)
quoted-IsUtf8 t is =
    let cs = is.0 in
    let content = characters-IsUtf8 cs is.1.0 in
    let closed = IsUtf8-append (flat_map escaped_character cs) (quote ∷ []) content (ascii-IsUtf8 (quote ∷ []) refl) in
    let whole = ascii-before quote (flat_map escaped_character cs ++ quote ∷ []) (omega arith) closed in
    subst (λ bytes. IsUtf8 (quoted bytes)) is.1.1 (subst IsUtf8 (sym (quoted_by_characters cs is.1.0)) whole)

-- ---- bytes

abbrev are_bytes : List ℕ → Bool
are_bytes bytes = list_all (λ b. nat_lt b 0x100) bytes

take-bytes : (n : ℕ) (bytes : List ℕ) → are_bytes bytes ≡ true → are_bytes (take n bytes) ≡ true
take-bytes zero bytes e = refl
take-bytes (suc n) [] e = refl
take-bytes (suc n) (b ∷ bytes) e =
    let p = and_parts (nat_lt b 0x100) (are_bytes bytes) e in rw (p.0, take-bytes n bytes p.1) refl

drop-bytes : (n : ℕ) (bytes : List ℕ) → are_bytes bytes ≡ true → are_bytes (drop n bytes) ≡ true
drop-bytes zero bytes e = e
drop-bytes (suc n) [] e = refl
drop-bytes (suc n) (b ∷ bytes) e = drop-bytes n bytes (and_parts (nat_lt b 0x100) (are_bytes bytes) e).1

hex_digit-ascii : (d : ℕ) → d < 16 → hex_digit d < 128
hex_digit-ascii d small = grind (arith, nat_tests)

digits-IsUtf8 : (bytes : List ℕ) → are_bytes bytes ≡ true → IsUtf8 (flat_map hex_byte bytes)
digits-IsUtf8 [] e = IsUtf8-nil
digits-IsUtf8 (b ∷ bytes) e =
    let p = and_parts (nat_lt b 0x100) (are_bytes bytes) e in
    let small = ltb-true b 0x100 p.0 in
    let others = digits-IsUtf8 bytes p.1 in
    ascii-before (hex_digit (b / 16)) _ (hex_digit-ascii (b / 16) (omega arith))
    (ascii-before (hex_digit (b % 16)) _ (hex_digit-ascii (b % 16) (omega arith)) others)

shortened-IsUtf8 : (bytes : List ℕ) (head tail : ℕ) → are_bytes bytes ≡ true → IsUtf8 (shortened bytes head tail)
shortened-IsUtf8 bytes head tail e =
    let front = min head (length bytes) in
    let back = min tail (length bytes - front) in
    let left_out = length bytes - front - back in
    let first = flat_map hex_byte (take front bytes) in
    let one = IsUtf8-append first (codes "..<") (digits-IsUtf8 _ (take-bytes front bytes e)) (ascii-IsUtf8 (codes "..<") refl) in
    let two = IsUtf8-append (first ++ codes "..<") (decimal left_out) one (decimal-IsUtf8 left_out) in
    let three = IsUtf8-append (first ++ codes "..<" ++ decimal left_out) (codes " bytes>..") two (ascii-IsUtf8 (codes " bytes>..") refl) in
    IsUtf8-append (first ++ codes "..<" ++ decimal left_out ++ codes " bytes>..") (flat_map hex_byte (drop (front + left_out) bytes)) three
    (digits-IsUtf8 _ (drop-bytes (front + left_out) bytes e))

hex-IsUtf8 : (bytes : List ℕ) (limit : Option ℕ) (head tail : ℕ) → are_bytes bytes ≡ true → IsUtf8 (hex bytes limit head tail)
hex-IsUtf8 bytes None head tail e = digits-IsUtf8 bytes e
hex-IsUtf8 bytes (Some limit) head tail e =
    either-IsUtf8 (nat_lt limit (length bytes)) _ _ (shortened-IsUtf8 bytes head tail e) (digits-IsUtf8 bytes e)

more_numbers-IsUtf8 : (bytes : List ℕ) → IsUtf8 (more_numbers bytes)
more_numbers-IsUtf8 [] = IsUtf8-nil
more_numbers-IsUtf8 (b ∷ bytes) =
    ascii-before 44 _ (omega arith) (IsUtf8-append (decimal b) (more_numbers bytes) (decimal-IsUtf8 b) (more_numbers-IsUtf8 bytes))

numbers-IsUtf8 : (bytes : List ℕ) → IsUtf8 (numbers bytes)
numbers-IsUtf8 [] = IsUtf8-nil
numbers-IsUtf8 (b ∷ bytes) = IsUtf8-append (decimal b) (more_numbers bytes) (decimal-IsUtf8 b) (more_numbers-IsUtf8 bytes)

-- bytes in either format
pub bytes-IsUtf8 : (format : BytesFormat) (bytes : List ℕ) → are_bytes bytes ≡ true → IsUtf8 (bytes_text format bytes)
bytes-IsUtf8 as_array bytes e =
    ascii-before 91 _ (omega arith) (IsUtf8-append (numbers bytes) (93 ∷ []) (numbers-IsUtf8 bytes) (ascii-IsUtf8 (93 ∷ []) refl))
bytes-IsUtf8 (as_hex limit head tail) bytes e =
    let inner = hex bytes limit head tail in
    IsUtf8-append (codes "\"0x" ++ inner) (codes "\"")
    (IsUtf8-append (codes "\"0x") inner (ascii-IsUtf8 (codes "\"0x") refl) (hex-IsUtf8 bytes limit head tail e)) (ascii-IsUtf8 (codes "\"") refl)

-- ---- layout

indents-IsUtf8 : (n : ℕ) (indent : List ℕ) → IsUtf8 indent → IsUtf8 (indents n indent)
indents-IsUtf8 zero indent is = IsUtf8-nil
indents-IsUtf8 (suc n) indent is = IsUtf8-append indent (indents n indent) is (indents-IsUtf8 n indent is)

pub new_line-IsUtf8 : (o : Options) (depth : ℕ) → IsUtf8 o.indent → IsUtf8 (new_line o depth)
new_line-IsUtf8 o depth is =
    either-IsUtf8 o.pretty _ _ (ascii-before 10 _ (omega arith) (indents-IsUtf8 depth o.indent is)) IsUtf8-nil

pub separator-IsUtf8 : (first : Bool) → IsUtf8 (separator first)
separator-IsUtf8 true = IsUtf8-nil
separator-IsUtf8 false = ascii-IsUtf8 (44 ∷ []) refl

pub line_at_end-IsUtf8 : (o : Options) (depth : ℕ) (first : Bool) → IsUtf8 o.indent → IsUtf8 (line_at_end o depth first)
line_at_end-IsUtf8 o depth first is = either-IsUtf8 first _ _ IsUtf8-nil (new_line-IsUtf8 o depth is)

pub colon-IsUtf8 : (o : Options) → IsUtf8 (colon_text o)
colon-IsUtf8 o = either-IsUtf8 o.pretty _ _ (ascii-IsUtf8 (58 ∷ 32 ∷ []) refl) (ascii-IsUtf8 (58 ∷ []) refl)

pub bool-IsUtf8 : (b : Bool) → IsUtf8 (bool_text b)
bool-IsUtf8 true = ascii-IsUtf8 (codes "true") refl
bool-IsUtf8 false = ascii-IsUtf8 (codes "false") refl
