-- The contents of strings that RFC 8259 has are those that pass the check, among contents with a text.
use Rattle.std.proofs.Common.{◌≡◌, ℕ, ◌≤◌, ◌+◌, ◌*◌, Bool, true, false, cond, ◌&&◌, ◌==◌, nat_le, List, [], ◌∷◌, ◌++◌, Option, Some, None, refl, sym, ap, subst, ◌∙◌, arith, append-nil, le-leb, ltb-true}
use Rattle.std.specs.Char.{encode_utf8, digit_value, IsScalar}
use Rattle.std.specs.List.{list_all}
use Rattle.std.specs.Str.{encode_utf8_all}
use Rattle.std.proofs.lemmas.Str.{encode_ascii}
use lib.Utf8.{scalar}
use Rattle.std.proofs.lemmas.Bool.{and_parts, and_from}
use Rattle.std.proofs.lemmas.Bool.Decides.{nat_tests}
use Rattle.facet_format.specs.Bytes.{quote, backslash, lower_u}
use Rattle.facet_json_token.specs.GapLen.{one_more}
use Rattle.facet_json_token.specs.Shape.{ArePieces}
use Rattle.facet_json_token.specs.Shape as cut
use Rattle.facet_json_token.specs.Decode.{is_hex, code_unit, Piece, itself, short, other, unit, pair, Decodes}
use Rattle.facet_json_token.specs.Decode as decode
use Rattle.facet_json_token.proofs.CharAt.{Shape, one, two, three, four, shape}
use Rattle.facet_json_token.specs.Strict.{may_stand, wrong_at}
use Rattle.facet_json_grammar.specs.RfcText.{InUtf8, is_rfc_unescaped, is_escapable, is_hex_digit, IsRfcContent}
use Rattle.facet_json_grammar.proofs.Rfc.Encoded.{is_ascii, ascii, joined}
use Rattle.facet_json_grammar.proofs.Rfc.Leaves.{hex-is_digit, escape-is_escapable, lenient-unnamed, escapable-is_named}

-- ---- what a token's content and the check say, byte by byte

-- The bytes are pieces of a string's content, none of which is wrong.
pub record Stands (content : List ℕ) : Type 0 where
  pub mark : Bool
  pub pieces : ArePieces content mark
  pub right : wrong_at false content ≡ None

right-first : (allowed : Bool) (o : Option ℕ) → cond allowed (one_more o) (Some 0) ≡ None → (allowed ≡ true) × (o ≡ None)
right-first true None e = (refl, refl)
right-first true (Some n) e = cc
right-first false o e = cc

-- A byte that is no backslash is no quote either, and from 0x20 on; and what follows it stands so.
past-byte_by : (b : ℕ) (xs : List ℕ) {m : Bool} → (b == backslash) ≡ false → ArePieces (b ∷ xs) m → wrong_at false (b ∷ xs) ≡ None →
    (nat_le 0x20 b ≡ true) × ((b == quote) ≡ false) × Stands xs
past-byte_by b xs ne (cut.ArePieces.byte _ _ m no_quote no_backslash p) e =
    let first = right-first (nat_le 0x20 b) (wrong_at (b == backslash) xs) e in
    (first.0, no_quote, record { mark = m; pieces = p; right = ap (λ x. wrong_at x xs) (sym ne) ∙ first.1 })
past-byte_by _ _ ne (cut.ArePieces.escape c others m p) e = cc

past-byte : (b : ℕ) (xs : List ℕ) → (b == backslash) ≡ false → Stands (b ∷ xs) → (nat_le 0x20 b ≡ true) × ((b == quote) ≡ false) × Stands xs
past-byte b xs ne s = past-byte_by b xs ne s.pieces s.right

-- After a backslash stands a byte that may, and what follows it stands so.
past-escape_by : (b : ℕ) (xs : List ℕ) {m : Bool} → ArePieces (backslash ∷ b ∷ xs) m → wrong_at false (backslash ∷ b ∷ xs) ≡ None →
    (may_stand true b ≡ true) × Stands xs
past-escape_by b xs (cut.ArePieces.byte _ _ m no_quote no_backslash p) e = cc
past-escape_by b xs (cut.ArePieces.escape _ _ m p) e =
    let first = right-first true (wrong_at true (b ∷ xs)) e in
    let second = right-first (may_stand true b) (wrong_at false xs) first.1 in
    (second.0, record { mark = m; pieces = p; right = second.1 })

past-escape : (b : ℕ) (xs : List ℕ) → Stands (backslash ∷ b ∷ xs) → (may_stand true b ≡ true) × Stands xs
past-escape b xs s = past-escape_by b xs s.pieces s.right

-- ---- pieces

-- These characters may stand before any content.
abbrev Begins : List ℕ → Type 0
Begins cs = (others : List ℕ) → IsRfcContent others → IsRfcContent (cs ++ others)

-- A piece that stands so begins a content of RFC 8259, and what follows it stands so.
abbrev BeginsWith : List ℕ → List ℕ → Type 0
BeginsWith first others = InUtf8 Begins first × Stands others

a_character : (c : ℕ) → IsScalar c → is_rfc_unescaped c ≡ true → InUtf8 Begins (encode_utf8 c)
a_character c is may = record {
  characters = c ∷ [];
  are_scalars = and_from (scalar c) _ is refl;
  encoded = append-nil (encode_utf8 c);
  such = λ others content. IsRfcContent.unescaped c others may content;
}

-- A byte of a longer character.
past-high : (b : ℕ) (xs : List ℕ) → 0x80 ≤ b → Stands (b ∷ xs) → Stands xs
past-high b xs h s = (past-byte b xs (grind arith) s).2

itself-begins : (c : ℕ) (others : List ℕ) → IsScalar c → (c == backslash) ≡ false → Stands (encode_utf8 c ++ others) →
    BeginsWith (encode_utf8 c) others
itself-begins c others is ne s = by (shape c)
  where
    high : 0x80 ≤ c → is_rfc_unescaped c ≡ true
    high h = grind (arith, nat_tests)

    by : Shape c → BeginsWith (encode_utf8 c) others
    by (one h e) =
        let first = past-byte c others ne (subst (λ bs. Stands (bs ++ others)) e s) in
        (a_character c is (rw (first.0, first.1, ne) refl), first.2)
    by (two l h e) =
        let there = subst (λ bs. Stands (bs ++ others)) e s in
        (a_character c is (high (omega arith)), past-high _ others (omega arith) (past-high _ _ (omega arith) there))
    by (three l h e) =
        let there = subst (λ bs. Stands (bs ++ others)) e s in
        (a_character c is (high (omega arith)), past-high _ others (omega arith) (past-high _ _ (omega arith) (past-high _ _ (omega arith) there)))
    by (four l e) =
        let there = subst (λ bs. Stands (bs ++ others)) e s in
        (a_character c is (high (omega arith)), past-high _ others (omega arith) (past-high _ _ (omega arith) (past-high _ _ (omega arith) (past-high _ _ (omega arith) there))))

short-ascii : (b : ℕ) → is_escapable b ≡ true → is_ascii b ≡ true
short-ascii b e = grind (arith, nat_tests)

-- Four hexadecimal digits.
hexes : (a b c d u : ℕ) → code_unit a b c d ≡ Some u → (is_hex_digit a ≡ true) × (is_hex_digit b ≡ true) × (is_hex_digit c ≡ true) × (is_hex_digit d ≡ true)
unfolding code_unit
hexes a b c d u e = by (is_hex a && is_hex b && is_hex c && is_hex d) refl e
  where
    by : (x : Bool) → (is_hex a && is_hex b && is_hex c && is_hex d) ≡ x →
        cond x (Some (digit_value a * 0x1000 + digit_value b * 0x100 + digit_value c * 0x10 + digit_value d)) None ≡ Some u →
        (is_hex_digit a ≡ true) × (is_hex_digit b ≡ true) × (is_hex_digit c ≡ true) × (is_hex_digit d ≡ true)
    by true t k =
        let three_of = and_parts (is_hex a && is_hex b && is_hex c) (is_hex d) t in
        let two_of = and_parts (is_hex a && is_hex b) (is_hex c) three_of.0 in
        let one_of = and_parts (is_hex a) (is_hex b) two_of.0 in
        (hex-is_digit a one_of.0, hex-is_digit b one_of.1, hex-is_digit c two_of.1, hex-is_digit d three_of.1)
    by false t k = cc

hex-low : (a : ℕ) → is_hex_digit a ≡ true → (is_ascii a ≡ true) × ((a == backslash) ≡ false)
hex-low a e = (grind (arith, nat_tests), grind (arith, nat_tests))

-- A digit of an escape, and what follows it.
past-hex : (a : ℕ) (xs : List ℕ) → is_hex_digit a ≡ true → Stands (a ∷ xs) → Stands xs
past-hex a xs h s = (past-byte a xs (hex-low a h).1 s).2

-- An escape of four digits.
past-unit : (a b c d u : ℕ) (others : List ℕ) → code_unit a b c d ≡ Some u → Stands (backslash ∷ lower_u ∷ a ∷ b ∷ c ∷ d ∷ others) → Stands others
past-unit a b c d u others e s =
    let h = hexes a b c d u e in
    past-hex d others h.3 (past-hex c _ h.2 (past-hex b _ h.1 (past-hex a _ h.0 (past-escape lower_u _ s).1)))

unit-ascii : (a b c d u : ℕ) (rest : List ℕ) → code_unit a b c d ≡ Some u → list_all is_ascii rest ≡ true →
    list_all is_ascii (backslash ∷ lower_u ∷ a ∷ b ∷ c ∷ d ∷ rest) ≡ true
unit-ascii a b c d u rest e more =
    let h = hexes a b c d u e in
    and_from (is_ascii a) _ (hex-low a h.0).0 (and_from (is_ascii b) _ (hex-low b h.1).0
    (and_from (is_ascii c) _ (hex-low c h.2).0 (and_from (is_ascii d) _ (hex-low d h.3).0 more)))

unit-content : (a b c d u : ℕ) (others : List ℕ) → code_unit a b c d ≡ Some u → IsRfcContent others →
    IsRfcContent (backslash ∷ lower_u ∷ a ∷ b ∷ c ∷ d ∷ others)
unit-content a b c d u others e content =
    let h = hexes a b c d u e in IsRfcContent.unit a b c d others h.0 h.1 h.2 h.3 content

piece-begins : (first : List ℕ) (c : ℕ) (others : List ℕ) → Piece first c → Stands (first ++ others) → BeginsWith first others
piece-begins _ c others (itself _ is ne) s = itself-begins c others is ne s
piece-begins _ c others (short b _ e) s = (
  ascii {P = Begins} (backslash ∷ b ∷ []) (and_from (is_ascii b) _ (short-ascii b (escape-is_escapable b c e)) refl) (λ rest content. IsRfcContent.short b rest (escape-is_escapable b c e) content),
  (past-escape b others s).1,
)
piece-begins _ c others (other _ low none ne) s =
    let may = (past-escape c others s).0 in
    let no : may_stand true c ≡ false = rw (lenient-unnamed c none ne) (grind (arith, nat_tests)) in cc
piece-begins _ c others (unit a b d e _ is high low) s =
    (ascii {P = Begins} _ (unit-ascii a b d e c [] is refl) (λ rest content. unit-content a b d e c rest is content), past-unit a b d e c others is s)
piece-begins _ _ others (pair a b c d high e f g h low is high_is also low_is) s =
    let second = backslash ∷ lower_u ∷ e ∷ f ∷ g ∷ h ∷ [] in (
      ascii {P = Begins} (backslash ∷ lower_u ∷ a ∷ b ∷ c ∷ d ∷ second) (unit-ascii a b c d high second is (unit-ascii e f g h low [] also refl))
          (λ rest content. unit-content a b c d high (second ++ rest) is (unit-content e f g h low rest also content)),
      past-unit e f g h low others also (past-unit a b c d high (second ++ others) is s),
    )

-- A content that has a text, is a token's and passes the check is one of RFC 8259.
pub content-rfc : {content text : List ℕ} → Decodes content text → Stands content → InUtf8 IsRfcContent content
content-rfc decode.empty s = ascii [] refl IsRfcContent.empty
content-rfc (decode.piece first others content c rest text p d e t) s =
    let there = piece-begins first c others p (subst Stands e s) in
    rw e (joined {P = Begins} (λ a b begins content. begins b content) there.0 (content-rfc d there.1))

-- ---- what RFC 8259 has is a token's content and passes the check

before-byte : (b : ℕ) (xs : List ℕ) → 0x20 ≤ b → (b == quote) ≡ false → (b == backslash) ≡ false → Stands xs → Stands (b ∷ xs)
before-byte b xs h q ne s = record {
  mark = s.mark;
  pieces = cut.ArePieces.byte b xs s.mark q ne s.pieces;
  right = rw (le-leb 0x20 b h, ne) (ap one_more s.right);
}

before-high : (b : ℕ) (xs : List ℕ) → 0x80 ≤ b → Stands xs → Stands (b ∷ xs)
before-high b xs h s = before-byte b xs (omega arith) (grind arith) (grind arith) s

before-escape : (b : ℕ) (xs : List ℕ) → may_stand true b ≡ true → Stands xs → Stands (backslash ∷ b ∷ xs)
before-escape b xs may s = record {
  mark = true;
  pieces = cut.ArePieces.escape b xs s.mark s.pieces;
  right = rw may (ap (λ o. one_more (one_more o)) s.right);
}

before-hex : (a : ℕ) (xs : List ℕ) → is_hex_digit a ≡ true → Stands xs → Stands (a ∷ xs)
before-hex a xs h s = before-byte a xs (grind (arith, nat_tests)) (grind (arith, nat_tests)) (hex-low a h).1 s

before-character : (c : ℕ) (xs : List ℕ) → is_rfc_unescaped c ≡ true → Stands xs → Stands (encode_utf8 c ++ xs)
before-character c xs may s = by (shape c)
  where
    by : Shape c → Stands (encode_utf8 c ++ xs)
    by (one h e) = rw e (before-byte c xs (grind (arith, nat_tests)) (grind (arith, nat_tests)) (grind (arith, nat_tests)) s)
    by (two l h e) = rw e (before-high _ _ (omega arith) (before-high _ xs (omega arith) s))
    by (three l h e) = rw e (before-high _ _ (omega arith) (before-high _ _ (omega arith) (before-high _ xs (omega arith) s)))
    by (four l e) = rw e (before-high _ _ (omega arith) (before-high _ _ (omega arith) (before-high _ _ (omega arith) (before-high _ xs (omega arith) s))))

-- The UTF-8 of an ASCII character is itself.
own : (c : ℕ) (cs : List ℕ) → is_ascii c ≡ true → encode_utf8_all (c ∷ cs) ≡ c ∷ encode_utf8_all cs
own c cs low = ap (λ l. l ++ encode_utf8_all cs) (encode_ascii c (ltb-true c 0x80 low))

short-may : (b : ℕ) → is_escapable b ≡ true → may_stand true b ≡ true
short-may b e = rw (escapable-is_named b e) (grind arith)

pub rfc-content : (cs : List ℕ) → IsRfcContent cs → Stands (encode_utf8_all cs)
rfc-content _ IsRfcContent.empty = record { mark = false; pieces = cut.ArePieces.none; right = refl }
rfc-content _ (IsRfcContent.unescaped c others may more) = before-character c (encode_utf8_all others) may (rfc-content others more)
rfc-content _ (IsRfcContent.short b others e more) =
    let there = before-escape b (encode_utf8_all others) (short-may b e) (rfc-content others more) in
    rw (own backslash (b ∷ others) refl, own b others (short-ascii b e)) there
rfc-content _ (IsRfcContent.unit a b c d others ha hb hc hd more) =
    let there = before-escape lower_u (a ∷ b ∷ c ∷ d ∷ encode_utf8_all others) refl
    (before-hex a _ ha (before-hex b _ hb (before-hex c _ hc (before-hex d (encode_utf8_all others) hd (rfc-content others more))))) in
    rw (
      own backslash (lower_u ∷ a ∷ b ∷ c ∷ d ∷ others) refl,
      own lower_u (a ∷ b ∷ c ∷ d ∷ others) refl,
      own a (b ∷ c ∷ d ∷ others) (hex-low a ha).0,
      own b (c ∷ d ∷ others) (hex-low b hb).0,
      own c (d ∷ others) (hex-low c hc).0,
      own d others (hex-low d hd).0,
    ) there
