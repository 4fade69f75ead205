-- The text that `decoded` computes is the one text that `Decodes` gives (specs/Decode.antt).
use Rattle.std.proofs.Common.{◌≡◌, ℕ, zero, suc, ◌-◌, ◌<◌, ◌≤◌, Bool, true, false, cond, ◌&&◌, List, [], ◌∷◌, ◌++◌, length, take, drop, Option, Some, None, option_map, refl, sym, ap, ◌∙◌, arith}
use Rattle.std.specs.Prelude.{◌==◌, nat_lt}
use Rattle.std.specs.Char.{IsScalar, encode_utf8}
use Rattle.std.proofs.lemmas.Bool.{and_parts, eqb-true}
use Rattle.std.proofs.lemmas.Str.{encode_ascii}
use Rattle.std.proofs.lemmas.List.{take-append-drop}
use Rattle.facet_format.specs.Bytes.{backslash, lower_u}
use Rattle.facet_json_token.specs.Decode.{short_escape, code_unit, is_high_surrogate, is_low_surrogate, surrogate_pair, Piece, itself, short, other, unit, pair, Decodes, empty, piece}
use Rattle.facet_json_token.specs.Decoded.{utf8_at, pair_of, low_at, unit_of, unit_at, short_of, escape_at, piece_at, decoded_past, decoded}
use Rattle.facet_json_token.specs.DecodeLaws.{DecodedIsDecodes}
use Rattle.facet_json_token.proofs.CharAt.{some_same, some_if, Leads, utf8_at-encoded, utf8_at-leads, encoded-first}

-- A piece that stands for the character is at the start of the bytes.
pub record BeginsWithPiece (bytes : List ℕ) (c n : ℕ) : Type 0 where
  pub within : n ≤ length bytes
  pub some : 0 < n
  pub is_piece : Piece (take n bytes) c

-- ---- what is computed is a piece

-- the escape of a high surrogate, and what is found after it
low_at-begins : (a b c d high v n : ℕ) (bytes : List ℕ) → code_unit a b c d ≡ Some high →
    is_high_surrogate high ≡ true → low_at high bytes ≡ Some (v, n) →
    BeginsWithPiece (backslash ∷ lower_u ∷ a ∷ b ∷ c ∷ d ∷ bytes) v n
low_at-begins a b c d high v n (s ∷ t ∷ e ∷ f ∷ g ∷ h ∷ bytes) unit_is is_high found =
    by ((s == backslash) && (t == lower_u)) refl found
  where
    lower : (o : Option ℕ) → code_unit e f g h ≡ o → pair_of high o ≡ Some (v, n) → s ≡ backslash → t ≡ lower_u →
        BeginsWithPiece (backslash ∷ lower_u ∷ a ∷ b ∷ c ∷ d ∷ s ∷ t ∷ e ∷ f ∷ g ∷ h ∷ bytes) v n
    lower None is k p q = cc
    lower (Some low) is k p q =
        let w = some_if (is_low_surrogate low) (surrogate_pair high low) v 12 n k in
        let own = pair a b c d high e f g h low unit_is is_high is w.0 in
        rw (p, q, ← w.1, ← w.2) (record { within = omega arith; some = omega arith; is_piece = own })

    by : (x : Bool) → ((s == backslash) && (t == lower_u)) ≡ x →
        cond x (pair_of high (code_unit e f g h)) None ≡ Some (v, n) →
        BeginsWithPiece (backslash ∷ lower_u ∷ a ∷ b ∷ c ∷ d ∷ s ∷ t ∷ e ∷ f ∷ g ∷ h ∷ bytes) v n
    by true tests k =
        let both = and_parts (s == backslash) (t == lower_u) tests in
        lower (code_unit e f g h) refl k (eqb-true s backslash both.0) (eqb-true t lower_u both.1)
    by false tests k = cc
low_at-begins a b c d high v n [] unit_is is_high found = cc
low_at-begins a b c d high v n (s ∷ []) unit_is is_high found = cc
low_at-begins a b c d high v n (s ∷ t ∷ []) unit_is is_high found = cc
low_at-begins a b c d high v n (s ∷ t ∷ e ∷ []) unit_is is_high found = cc
low_at-begins a b c d high v n (s ∷ t ∷ e ∷ f ∷ []) unit_is is_high found = cc
low_at-begins a b c d high v n (s ∷ t ∷ e ∷ f ∷ g ∷ []) unit_is is_high found = cc

-- the escape of four digits
unit_of-begins : (a b c d v n : ℕ) (bytes : List ℕ) (o : Option ℕ) → code_unit a b c d ≡ o →
    unit_of bytes o ≡ Some (v, n) → BeginsWithPiece (backslash ∷ lower_u ∷ a ∷ b ∷ c ∷ d ∷ bytes) v n
unit_of-begins a b c d v n bytes None is found = cc
unit_of-begins a b c d v n bytes (Some u) is found = by (is_high_surrogate u) (is_low_surrogate u) refl refl found
  where
    by : (x y : Bool) → is_high_surrogate u ≡ x → is_low_surrogate u ≡ y →
        cond x (low_at u bytes) (cond y None (Some (u, 6))) ≡ Some (v, n) →
        BeginsWithPiece (backslash ∷ lower_u ∷ a ∷ b ∷ c ∷ d ∷ bytes) v n
    by true y p q k = low_at-begins a b c d u v n bytes is p k
    by false true p q k = cc
    by false false p q k =
        let same = some_same u v 6 n k in
        rw (← same.0, ← same.1) (record { within = omega arith; some = omega arith; is_piece = unit a b c d u is p q })

-- a backslash and `u`
unit_at-begins : (v n : ℕ) (bytes : List ℕ) → unit_at bytes ≡ Some (v, n) → BeginsWithPiece (backslash ∷ lower_u ∷ bytes) v n
unfolding unit_at
unit_at-begins v n (a ∷ b ∷ c ∷ d ∷ bytes) found = unit_of-begins a b c d v n bytes (code_unit a b c d) refl found
unit_at-begins v n [] found = cc
unit_at-begins v n (a ∷ []) found = cc
unit_at-begins v n (a ∷ b ∷ []) found = cc
unit_at-begins v n (a ∷ b ∷ c ∷ []) found = cc

-- a backslash and any other byte
short_of-begins : (b v n : ℕ) (bytes : List ℕ) (o : Option ℕ) → (b == lower_u) ≡ false → short_escape b ≡ o →
    short_of b o ≡ Some (v, n) → BeginsWithPiece (backslash ∷ b ∷ bytes) v n
short_of-begins b v n bytes (Some c) ne is found =
    let same = some_same c v 2 n found in
    rw (← same.0, ← same.1) (record { within = omega arith; some = omega arith; is_piece = short b c is })
short_of-begins b v n bytes None ne is found =
    let w = some_if (nat_lt b 0x80) b v 2 n found in
    rw (← w.1, ← w.2) (record { within = omega arith; some = omega arith; is_piece = other b w.0 is ne })

-- a backslash
escape_at-begins : (v n : ℕ) (bytes : List ℕ) → escape_at bytes ≡ Some (v, n) → BeginsWithPiece (backslash ∷ bytes) v n
unfolding escape_at
escape_at-begins v n [] found = cc
escape_at-begins v n (b ∷ bytes) found = by (b == lower_u) refl found
  where
    by : (x : Bool) → (b == lower_u) ≡ x → cond x (unit_at bytes) (short_of b (short_escape b)) ≡ Some (v, n) →
        BeginsWithPiece (backslash ∷ b ∷ bytes) v n
    by true is k = let front = unit_at-begins v n bytes k in rw (eqb-true b lower_u is) front
    by false is k = short_of-begins b v n bytes (short_escape b) is refl k

-- A character is no backslash where its first byte is none.
leads-other : (b c n : ℕ) (bytes : List ℕ) → (b == backslash) ≡ false → Leads (b ∷ bytes) c n →
    (c == backslash) ≡ false
leads-other b c zero bytes ne leads = absurd (omega (arith, leads.some))
leads-other b c (suc n) bytes ne leads = by (c == backslash) refl
  where
    by : (x : Bool) → (c == backslash) ≡ x → x ≡ false
    by false is = refl
    by true is =
        let at : c ≡ backslash = eqb-true c backslash is in
        let small : c < 128 = omega arith in
        let own : encode_utf8 c ≡ c ∷ [] = encode_ascii c small in
        let same : encode_utf8 c ≡ b ∷ take n bytes = leads.encoded in
        let first : b ≡ c = cc in
        let equal : b ≡ backslash = cc in
        grind arith

-- a character other than a backslash
itself-begins : (b c n : ℕ) (bytes : List ℕ) → (b == backslash) ≡ false → Leads (b ∷ bytes) c n → BeginsWithPiece (b ∷ bytes) c n
itself-begins b c n bytes ne leads =
    let own = itself c leads.is_scalar (leads-other b c n bytes ne leads) in
    record { within = leads.within; some = leads.some; is_piece = rw (← leads.encoded) own }

-- What is found is a piece at the start.
pub piece_at-begins : (bytes : List ℕ) (c n : ℕ) → piece_at bytes ≡ Some (c, n) → BeginsWithPiece bytes c n
unfolding piece_at
piece_at-begins [] c n found = cc
piece_at-begins (b ∷ bytes) c n found = by (b == backslash) refl found
  where
    by : (x : Bool) → (b == backslash) ≡ x → cond x (escape_at bytes) (utf8_at (b ∷ bytes)) ≡ Some (c, n) →
        BeginsWithPiece (b ∷ bytes) c n
    by true is k = let front = escape_at-begins c n bytes k in rw (eqb-true b backslash is) front
    by false is k = itself-begins b c n bytes is (utf8_at-leads (b ∷ bytes) c n k)

-- ---- a piece is what is computed

-- A byte other than a backslash begins a character.
piece_at-plain : (b : ℕ) (bytes : List ℕ) → (b == backslash) ≡ false → piece_at (b ∷ bytes) ≡ utf8_at (b ∷ bytes)
unfolding piece_at
piece_at-plain b bytes ne = ap (λ t. cond t (escape_at bytes) (utf8_at (b ∷ bytes))) ne

-- A character other than a backslash is found.
piece_at-itself : (c : ℕ) (rest : List ℕ) → IsScalar c → (c == backslash) ≡ false →
    piece_at (encode_utf8 c ++ rest) ≡ Some (c, length (encode_utf8 c))
piece_at-itself c rest is ne =
    let first = encoded-first c ne in
    ap (λ l. piece_at (l ++ rest)) first.2 ∙ piece_at-plain first.0 (first.1 ++ rest) first.3
    ∙ ap (λ l. utf8_at (l ++ rest)) (sym first.2) ∙ utf8_at-encoded c rest is

-- `u` has no short escape.
short-other : (b c : ℕ) → short_escape b ≡ Some c → (b == lower_u) ≡ false
unfolding short_escape
short-other b c is = by (b == lower_u) refl
  where
    by : (x : Bool) → (b == lower_u) ≡ x → x ≡ false
    by false e = refl
    by true e = let none : short_escape b ≡ None = rw (eqb-true b lower_u e) in cc

-- What is found at an escape without digits goes by its byte.
pub escape_at-short_of : (b : ℕ) (bytes : List ℕ) (o : Option ℕ) → short_escape b ≡ o → (b == lower_u) ≡ false →
    piece_at (backslash ∷ b ∷ bytes) ≡ short_of b o
unfolding piece_at escape_at
escape_at-short_of b bytes o is ne =
    ap (λ t. cond t (unit_at bytes) (short_of b (short_escape b))) ne ∙ ap (short_of b) is

-- What is found at an escape with digits goes by what they spell.
pub escape_at-unit_of : (a b c d : ℕ) (bytes : List ℕ) (o : Option ℕ) → code_unit a b c d ≡ o →
    piece_at (backslash ∷ lower_u ∷ a ∷ b ∷ c ∷ d ∷ bytes) ≡ unit_of bytes o
unfolding piece_at escape_at unit_at
escape_at-unit_of a b c d bytes o is = ap (unit_of bytes) is

-- A piece at the start is found.
pub piece_at-piece : (first : List ℕ) (c : ℕ) (rest : List ℕ) → Piece first c →
    piece_at (first ++ rest) ≡ Some (c, length first)
piece_at-piece first c rest (itself _ is ne) = piece_at-itself c rest is ne
piece_at-piece first v rest (short b _ is) = escape_at-short_of b rest (Some v) is (short-other b v is)
piece_at-piece first c rest (other b ascii none ne) =
    escape_at-short_of b rest None none ne ∙ ap (λ t. cond t (Some (b, 2)) None) ascii
piece_at-piece first v rest (unit a b c d u is high low) =
    escape_at-unit_of a b c d rest (Some u) is
    ∙ ap (λ t. cond t (low_at u rest) (cond (is_low_surrogate u) None (Some (u, 6)))) high
    ∙ ap (λ t. cond t None (Some (u, 6))) low
piece_at-piece first v rest (pair a b c d high e f g h low first_is is_high second_is is_low) =
    let last = backslash ∷ lower_u ∷ e ∷ f ∷ g ∷ h ∷ rest in
    escape_at-unit_of a b c d last (Some high) first_is
    ∙ ap (λ t. cond t (low_at high last) (cond (is_low_surrogate high) None (Some (high, 6)))) is_high
    ∙ ap (pair_of high) second_is ∙ ap (λ t. cond t (Some (surrogate_pair high low, 12)) None) is_low

-- ---- the text of a content

-- Where a text is found after a character's bytes, both texts make up the whole.
option_map-Some : (front text : List ℕ) (o : Option (List ℕ)) → option_map (λ t. front ++ t) o ≡ Some text →
    (t : List ℕ) × (o ≡ Some t) × (text ≡ front ++ t)
option_map-Some front text None e = cc
option_map-Some front text (Some t) e = (t, refl, cc)

-- A text of what stands after the piece at the start, with the piece's character.
decodes-step : (b c n k : ℕ) (bytes rest text : List ℕ) → BeginsWithPiece (b ∷ bytes) c n → k ≡ n - 1 →
    Decodes (drop k bytes) rest → text ≡ encode_utf8 c ++ rest → Decodes (b ∷ bytes) text
decodes-step b c zero k bytes rest text fronts is others e = absurd (omega (arith, fronts.some))
decodes-step b c (suc n) k bytes rest text fronts is others e =
    let same : k ≡ n = omega arith in
    let behind = rw same at others in
    let whole = sym (take-append-drop (suc n) (b ∷ bytes)) in
    piece (take (suc n) (b ∷ bytes)) (drop n bytes) (b ∷ bytes) c rest text fronts.is_piece behind whole e

-- the text of some bytes whose first is followed by these, where the piece at the start is known
abbrev pub decoded_by : List ℕ → Option (ℕ × ℕ) → Option (List ℕ)
decoded_by bytes o =
    elim o [ None ↦ None | Some p ↦ option_map (λ text. encode_utf8 p.0 ++ text) (decoded_past (p.1 - 1) bytes) ]

-- What is computed with the piece at the start is a text, if what is computed after it is.
decodes_by : (b : ℕ) (bytes text : List ℕ) (o : Option (ℕ × ℕ)) → piece_at (b ∷ bytes) ≡ o →
    ((k : ℕ) (rest : List ℕ) → decoded_past k bytes ≡ Some rest → Decodes (drop k bytes) rest) →
    decoded_by bytes o ≡ Some text → Decodes (b ∷ bytes) text
decodes_by b bytes text None is later e = cc
decodes_by b bytes text (Some p) is later e =
    let w = option_map-Some (encode_utf8 p.0) text (decoded_past (p.1 - 1) bytes) e in
    decodes-step b p.0 p.1 (p.1 - 1) bytes w.0 text (piece_at-begins (b ∷ bytes) p.0 p.1 is) refl
    (later (p.1 - 1) w.0 w.1) w.2

-- What is computed after some bytes is a text of what stands there.
decodes_past : (bytes : List ℕ) (inside : ℕ) (text : List ℕ) → decoded_past inside bytes ≡ Some text →
    Decodes (drop inside bytes) text
unfolding decoded_past
decodes_past [] zero text e = let none : [] ≡ text = cc in rw (← none) empty
decodes_past [] (suc inside) text e = cc
decodes_past (b ∷ bytes) (suc inside) text e = decodes_past bytes inside text e
decodes_past (b ∷ bytes) zero text e = decodes_by b bytes text (piece_at (b ∷ bytes)) refl (decodes_past bytes) e

-- What is computed is a text of the content.
pub decodes-decoded : (content text : List ℕ) → decoded content ≡ Some text → Decodes content text
decodes-decoded content text e = decodes_past content 0 text e

-- After its first bytes a content is decoded like what stands there.
decoded_past-append : (front others : List ℕ) → decoded_past (length front) (front ++ others) ≡ decoded others
unfolding decoded_past
decoded_past-append [] others = refl
decoded_past-append (b ∷ front) others = decoded_past-append front others

-- The text of a content whose first piece is known.
pub decoded-piece : (first others : List ℕ) (c : ℕ) → Piece first c →
    decoded (first ++ others) ≡ option_map (λ t. encode_utf8 c ++ t) (decoded others)
unfolding decoded_past
decoded-piece [] others c is = absurd (omega (arith, (piece_at-begins others c 0 (piece_at-piece [] c others is)).some))
decoded-piece (b ∷ first) others c is =
    let size : suc (length first) - 1 ≡ length first = omega arith in
    ap (decoded_by (first ++ others)) (piece_at-piece (b ∷ first) c others is)
    ∙ ap (λ n. option_map (λ t. encode_utf8 c ++ t) (decoded_past n (first ++ others))) size
    ∙ ap (option_map (λ t. encode_utf8 c ++ t)) (decoded_past-append first others)

-- A text of the content is computed.
pub decoded-decodes : (content text : List ℕ) → Decodes content text → decoded content ≡ Some text
unfolding decoded_past
decoded-decodes _ _ empty = refl
decoded-decodes _ _ (piece first others content c rest text is behind e f) =
    ap decoded e ∙ decoded-piece first others c is
    ∙ ap (option_map (λ t. encode_utf8 c ++ t)) (decoded-decodes others rest behind) ∙ ap Some (sym f)

-- The text that is computed is the one text of the content.
pub decoded_is_decodes : DecodedIsDecodes
decoded_is_decodes content text = (decodes-decoded content text, decoded-decodes content text)
