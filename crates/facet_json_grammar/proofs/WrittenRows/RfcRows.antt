-- Small texts that the grammar of RFC 8259 has, and some that it has not.
use Rattle.std.proofs.Common.{◌≡◌, ℕ, false, List, [], ◌∷◌, ◌++◌, refl, sym, ap, ◌∙◌, codes, get_or, eq-eqb, true≢false, ◌==◌}
use Rattle.facet_format.specs.Bytes.{backslash, colon, comma, left_bracket, right_bracket, left_brace, right_brace}
use Rattle.facet_json_token.specs.RfcNumber.{none, digit, IsRfcMinus, IsRfcExponentSign, SomeDigits, IsRfcWhole, nought, IsRfcFraction, IsRfcExponent, IsRfcNumber}
use Rattle.facet_json_grammar.specs.RfcText.{IsRfcStructural, IsRfcContent, empty, unescaped, short, unit, IsRfcString, IsRfcText, IsEnclosed, AreItems, literal_true, array, object, one_item, more_items, one_member, member}
use Rattle.facet_json_grammar.specs.RfcText as rfc
use Rattle.facet_json_grammar.proofs.Rfc.Lists.{unspaced}

-- ---- numbers

-- A number may have all parts.
all_parts_row : IsRfcNumber (codes "-0.5e+1")
all_parts_row = record {
  sign = codes "-";
  whole = codes "0";
  fraction = codes ".5";
  exponent = codes "e+1";
  is_minus = IsRfcMinus.present;
  is_whole = nought;
  is_fraction = IsRfcFraction.present (codes "5") (SomeDigits.digits 0x35 [] refl none);
  is_exponent = IsRfcExponent.present 0x65 (codes "+") (codes "1") _ refl IsRfcExponentSign.plus (SomeDigits.digits 0x31 [] refl none) refl;
  parts = refl;
}

-- A number may have digits alone.
ten : IsRfcNumber (codes "10")
ten = record {
  sign = [];
  whole = codes "10";
  fraction = [];
  exponent = [];
  is_minus = IsRfcMinus.absent;
  is_whole = IsRfcWhole.digits 0x31 (codes "0") refl (digit 0x30 [] refl none);
  is_fraction = IsRfcFraction.absent;
  is_exponent = IsRfcExponent.absent;
  parts = refl;
}

-- Equal lists have equal elements at each place.
at : {x y : List ℕ} (i : ℕ) → x ≡ y → get_or x i 0 ≡ get_or y i 0
at i e = ap (λ l. get_or l i 0) e

-- So lists with different elements there are not equal.
apart : {x y : List ℕ} (i : ℕ) → x ≡ y → (get_or x i 0 == get_or y i 0) ≡ false → ⊥
apart {x = x} {y = y} i e other = true≢false (sym (eq-eqb (get_or x i 0) (get_or y i 0) (at i e)) ∙ other)

-- No number has the parts of these characters.
abbrev HasNoParts : List ℕ → Type 0
HasNoParts characters = (sign whole fraction exponent : List ℕ) → IsRfcMinus sign → IsRfcWhole whole →
    IsRfcFraction fraction → IsRfcExponent exponent → characters ≡ sign ++ whole ++ fraction ++ exponent → ⊥

no_number : (characters : List ℕ) → HasNoParts characters → IsRfcNumber characters → ⊥
no_number characters without n = without n.sign n.whole n.fraction n.exponent n.is_minus n.is_whole n.is_fraction n.is_exponent n.parts

-- A zero leads nothing but a fraction or an exponent.
leading_zero_row : IsRfcNumber (codes "01") → ⊥
leading_zero_row = no_number (codes "01") no_parts
  where
    no_parts : HasNoParts (codes "01")
    no_parts _ _ _ _ IsRfcMinus.present _ _ _ e = apart 0 e refl
    no_parts _ _ _ _ IsRfcMinus.absent (IsRfcWhole.digits c others is _) _ _ e = let k : 0x30 ≡ c = at 0 e in true≢false (rw (← k) at (sym is))
    no_parts _ _ _ _ IsRfcMinus.absent nought (IsRfcFraction.present _ _) _ e = apart 1 e refl
    no_parts _ _ _ _ IsRfcMinus.absent nought IsRfcFraction.absent IsRfcExponent.absent e = apart 1 e refl
    no_parts _ _ _ _ IsRfcMinus.absent nought IsRfcFraction.absent (IsRfcExponent.present mark _ _ others is _ _ _) e =
        let k : 0x31 ≡ mark = at 1 e in true≢false (rw (← k) at (sym is))

-- A number does not start with a dot.
no_whole_row : IsRfcNumber (codes ".5") → ⊥
no_whole_row = no_number (codes ".5") no_parts
  where
    no_parts : HasNoParts (codes ".5")
    no_parts _ _ _ _ IsRfcMinus.present _ _ _ e = apart 0 e refl
    no_parts _ _ _ _ IsRfcMinus.absent nought _ _ e = apart 0 e refl
    no_parts _ _ _ _ IsRfcMinus.absent (IsRfcWhole.digits c others is _) _ _ e = let k : 0x2e ≡ c = at 0 e in true≢false (rw (← k) at (sym is))

-- Nor with a plus.
plus_row : IsRfcNumber (codes "+1") → ⊥
plus_row = no_number (codes "+1") no_parts
  where
    no_parts : HasNoParts (codes "+1")
    no_parts _ _ _ _ IsRfcMinus.present _ _ _ e = apart 0 e refl
    no_parts _ _ _ _ IsRfcMinus.absent nought _ _ e = apart 0 e refl
    no_parts _ _ _ _ IsRfcMinus.absent (IsRfcWhole.digits c others is _) _ _ e = let k : 0x2b ≡ c = at 0 e in true≢false (rw (← k) at (sym is))

-- A dot is followed by digits.
no_fraction_row : IsRfcNumber (codes "0.") → ⊥
no_fraction_row = no_number (codes "0.") no_parts
  where
    no_parts : HasNoParts (codes "0.")
    no_parts _ _ _ _ IsRfcMinus.present _ _ _ e = apart 0 e refl
    no_parts _ _ _ _ IsRfcMinus.absent (IsRfcWhole.digits c others is _) _ _ e = let k : 0x30 ≡ c = at 0 e in true≢false (rw (← k) at (sym is))
    no_parts _ _ _ _ IsRfcMinus.absent nought (IsRfcFraction.present _ (SomeDigits.digits c _ is _)) _ e = let k : 0 ≡ c = at 2 e in true≢false (rw (← k) at (sym is))
    no_parts _ _ _ _ IsRfcMinus.absent nought IsRfcFraction.absent IsRfcExponent.absent e = apart 1 e refl
    no_parts _ _ _ _ IsRfcMinus.absent nought IsRfcFraction.absent (IsRfcExponent.present mark _ _ others is _ _ _) e =
        let k : 0x2e ≡ mark = at 1 e in true≢false (rw (← k) at (sym is))

-- ---- strings

-- Escapes, and characters that stand for themselves.
escapes_row : IsRfcString (codes "\"\\n\\u00E9 é\"")
escapes_row = record {
  content = codes "\\n\\u00E9 é";
  is_content = short 0x6e _ refl (unit 0x30 0x30 0x45 0x39 _ refl refl refl refl (unescaped 0x20 _ refl (unescaped 0xe9 [] refl empty)));
  quoted = refl;
}

-- A backslash is followed by one of the eight letters or by u.
unknown_escape_row : IsRfcContent (codes "\\q") → ⊥
unknown_escape_row h = no_parts (codes "\\q") h refl
  where
    no_parts : (cs : List ℕ) → IsRfcContent cs → cs ≡ codes "\\q" → ⊥
    no_parts _ empty e = apart 0 e refl
    no_parts _ (unescaped c _ is _) e = let k : c ≡ backslash = at 0 e in true≢false (rw k at (sym is))
    no_parts _ (short c _ is _) e = let k : c ≡ 0x71 = at 1 e in true≢false (rw k at (sym is))
    no_parts _ (unit _ _ _ _ _ _ _ _ _ _) e = apart 1 e refl

-- A control character does not stand for itself.
control_row : IsRfcContent (0x09 ∷ []) → ⊥
control_row h = no_parts (0x09 ∷ []) h refl
  where
    no_parts : (cs : List ℕ) → IsRfcContent cs → cs ≡ 0x09 ∷ [] → ⊥
    no_parts _ empty e = apart 0 e refl
    no_parts _ (unescaped c _ is _) e = let k : c ≡ 0x09 = at 0 e in true≢false (rw k at (sym is))
    no_parts _ (short _ _ _ _) e = apart 0 e refl
    no_parts _ (unit _ _ _ _ _ _ _ _ _ _) e = apart 0 e refl

-- ---- texts

-- a structural character with a space at either side
spaced : (c : ℕ) → IsRfcStructural c (0x20 ∷ c ∷ 0x20 ∷ [])
spaced c = record {
  before = codes " ";
  inside = c ∷ [];
  after = codes " ";
  spaces_before = refl;
  such = refl;
  spaces_after = refl;
  whole = refl;
}

-- Characters between two structural characters with spaces.
enclosed : (open_character close_character : ℕ) (inside : List ℕ) →
    IsEnclosed open_character close_character inside (0x20 ∷ open_character ∷ 0x20 ∷ inside ++ 0x20 ∷ close_character ∷ 0x20 ∷ [])
enclosed open_character close_character inside = record {
  start = 0x20 ∷ open_character ∷ 0x20 ∷ [];
  finish = 0x20 ∷ close_character ∷ 0x20 ∷ [];
  opens = spaced open_character;
  closes = spaced close_character;
  whole = refl;
}

ten_and_true : AreItems (codes "10 , true")
ten_and_true = more_items (codes "10") (codes " , ") (codes "true") _ (rfc.number _ ten) (spaced comma) (one_item _ literal_true) refl

-- White space may stand around each structural character.
spaces_row : IsRfcText (codes " { \"\" :  [ 10 , true ]  } ")
spaces_row =
    let items = array (codes "10 , true") (codes " [ 10 , true ] ") ten_and_true (enclosed left_bracket right_bracket _) in
    let key : IsRfcString (codes "\"\"") = record { content = []; is_content = empty; quoted = refl } in
    let only = member (codes "\"\"") (codes " : ") (codes " [ 10 , true ] ") (codes "\"\" :  [ 10 , true ] ") key (spaced colon) items refl in
    unspaced _ (object (codes "\"\" :  [ 10 , true ] ") _ (one_member _ only) (enclosed left_brace right_brace _))
