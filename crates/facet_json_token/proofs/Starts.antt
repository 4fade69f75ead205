-- What a byte begins, case by case.
use Rattle.std.proofs.Common.{◌≡◌, ℕ, true, false, cond, ◌==◌, List, ◌∷◌, refl, sym, subst, ◌∙◌, true≢false, arith}
use Rattle.std.proofs.lemmas.Bool.{cond_both, eqb-true}
use Rattle.std.proofs.lemmas.Bool.Decides.{nat_tests}
use Rattle.facet_format.specs.Bytes.{quote, slash, left_brace, right_brace, left_bracket, right_bracket, is_space}
use Rattle.facet_format.specs.Bytes as bytes
use Rattle.facet_format.specs.NumberParts.{starts_number}
use Rattle.facet_json_token.specs.Token.{Kind}
use Rattle.facet_json_token.specs.Cut.{Start, punctuation, letter, opens_text, opens_number, opens_comment, opens_nothing, start_of}
use Rattle.facet_json_token.specs.Shape.{IsStructural, object_starts, object_ends, array_starts, array_ends, colon_stands, comma_stands, IsLiteral, null_stands, true_stands, false_stands}

-- The byte begins this.
pub data Begins : ℕ → Start → Type 0 where
  a_mark : (b : ℕ) (kind : Kind) → IsStructural b kind → Begins b (punctuation kind)
  a_word : (b : ℕ) (letters : List ℕ) (kind : Kind) → IsLiteral (b ∷ letters) kind →
      Begins b (letter (b ∷ letters) kind)
  a_text : Begins quote opens_text
  a_number : (b : ℕ) → starts_number b ≡ true → Begins b opens_number
  a_comment : Begins slash opens_comment
  no_token : (b : ℕ) → starts_number b ≡ false → Begins b opens_nothing

-- One of two, by a test for a byte.
pick : (b c : ℕ) (x y : Start) → Begins c x → Begins b y → Begins b (cond (b == c) x y)
pick b c x y h k = cond_both (b == c) x y (Begins b) (λ e. subst (λ n. Begins n x) (sym (eqb-true b c e)) h) (λ e. k)

-- What a byte is taken to begin it begins.
pub start_of-begins : (b : ℕ) → Begins b (start_of b)
unfolding start_of
start_of-begins b =
    pick b left_brace _ _ (a_mark _ _ object_starts) (pick b right_brace _ _ (a_mark _ _ object_ends)
    (pick b left_bracket _ _ (a_mark _ _ array_starts) (pick b right_bracket _ _ (a_mark _ _ array_ends)
    (pick b bytes.colon _ _ (a_mark _ _ colon_stands) (pick b bytes.comma _ _ (a_mark _ _ comma_stands)
    (pick b quote _ _ a_text (pick b 0x6e _ _ (a_word _ _ _ null_stands)
    (pick b 0x74 _ _ (a_word _ _ _ true_stands) (pick b 0x66 _ _ (a_word _ _ _ false_stands)
    (cond_both (starts_number b) _ _ (Begins b) (a_number b) (λ e. pick b slash _ _ a_comment (no_token b e))))))))))))

-- A bracket, a colon or a comma begins itself.
pub start_of-structural : (b : ℕ) (kind : Kind) → IsStructural b kind → start_of b ≡ punctuation kind
unfolding start_of
start_of-structural _ _ object_starts = refl
start_of-structural _ _ object_ends = refl
start_of-structural _ _ array_starts = refl
start_of-structural _ _ array_ends = refl
start_of-structural _ _ colon_stands = refl
start_of-structural _ _ comma_stands = refl

-- What begins with a minus or a digit is taken to be a number.
begins-number : (b : ℕ) (start : Start) → Begins b start → starts_number b ≡ true → start ≡ opens_number
begins-number _ _ (a_number _ h) e = refl
begins-number _ _ (no_token _ h) e = absurd (true≢false (sym e ∙ h))
begins-number _ _ (a_mark _ _ object_starts) e = cc
begins-number _ _ (a_word _ _ _ null_stands) e = cc
begins-number _ _ _ e = cc

-- A minus or a digit begins a number.
pub start_of-number : (b : ℕ) → starts_number b ≡ true → start_of b ≡ opens_number
start_of-number b e = begins-number b (start_of b) (start_of-begins b) e

-- A minus or a digit is neither blank nor a slash.
pub number_byte : (b : ℕ) → starts_number b ≡ true → (is_space b ≡ false) × ((b == slash) ≡ false)
number_byte b e = (grind (arith, nat_tests), grind (arith, nat_tests))
