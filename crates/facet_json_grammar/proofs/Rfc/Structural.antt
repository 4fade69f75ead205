-- Structural characters in UTF-8, with the white space beside them.
use Rattle.std.proofs.Common.{◌≡◌, ℕ, Bool, true, false, cond, List, [], ◌∷◌, ◌++◌, refl, arith}
use Rattle.std.specs.List.{list_all}
use Rattle.std.proofs.lemmas.Bool.{and_parts, and_from}
use Rattle.facet_format.specs.Bytes.{is_space, space, colon}
use Rattle.facet_json_grammar.specs.Text.{Options, colon_text}
use Rattle.facet_json_grammar.specs.RfcText.{InUtf8, AreSpaces, IsRfcStructural}
use Rattle.facet_json_grammar.proofs.Rfc.Encoded.{is_ascii, ascii, joined}
use Rattle.facet_json_grammar.proofs.Rfc.Lists.{unspaced, spaced_before, spaced_after}

space-ascii : (c : ℕ) → is_space c ≡ true → is_ascii c ≡ true
space-ascii c e = grind (arith, e)

-- White space is ASCII.
pub spaces-ascii : (spaces : List ℕ) → AreSpaces spaces → list_all is_ascii spaces ≡ true
spaces-ascii [] e = refl
spaces-ascii (c ∷ spaces) e =
    let parts = and_parts (is_space c) (list_all is_space spaces) e in
    and_from (is_ascii c) _ (space-ascii c parts.0) (spaces-ascii spaces parts.1)

-- ---- structural characters

alone : (c : ℕ) → is_ascii c ≡ true → InUtf8 (IsRfcStructural c) (c ∷ [])
alone c e = ascii (c ∷ []) (and_from (is_ascii c) _ e refl) (unspaced (c ∷ []) refl)

-- White space in UTF-8.
pub blank_text : (spaces : List ℕ) → AreSpaces spaces → InUtf8 AreSpaces spaces
blank_text spaces blank = ascii spaces (spaces-ascii spaces blank) blank

-- A structural character with white space after it.
pub with_spaces_after : (c : ℕ) (spaces : List ℕ) → is_ascii c ≡ true → AreSpaces spaces → InUtf8 (IsRfcStructural c) (c ∷ spaces)
with_spaces_after c spaces e blank = joined {P = IsRfcStructural c} {Q = AreSpaces} spaced_after (alone c e) (blank_text spaces blank)

-- A structural character with white space before it.
pub with_spaces_before : (c : ℕ) (spaces : List ℕ) → is_ascii c ≡ true → AreSpaces spaces → InUtf8 (IsRfcStructural c) (spaces ++ c ∷ [])
with_spaces_before c spaces e blank = joined {P = AreSpaces} {Q = IsRfcStructural c} spaced_before (blank_text spaces blank) (alone c e)

-- The colon between a key and its value.
pub colon-structural : (o : Options) → InUtf8 (IsRfcStructural colon) (colon_text o)
colon-structural o = by o.pretty
  where
    by : (b : Bool) → InUtf8 (IsRfcStructural colon) (cond b (colon ∷ space ∷ []) (colon ∷ []))
    by true = with_spaces_after colon (space ∷ []) refl refl
    by false = with_spaces_after colon [] refl refl
