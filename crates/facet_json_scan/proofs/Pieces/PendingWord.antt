-- A literal that the end of a buffer cuts.
use Rattle.std.proofs.Common.{◌≡◌, ◌≢◌, ℕ, suc, ◌<◌, cond, ◌==◌, List, [], ◌∷◌, ◌++◌, length, drop, refl, ap, ◌∙◌, subst, arith, length-append}
use Rattle.std.proofs.lemmas.Bool.{cond_both, eqb-true, eq-eqb}
use Rattle.std.proofs.lemmas.List.{length-drop}
use Rattle.facet_json_token.specs.Gap.{Mode}
use Rattle.facet_json_token.specs.Token.{Kind}
use Rattle.facet_json_token.specs.Cut.{Start, letter, start_of, common_len}
use Rattle.facet_json_token.specs.Shape.{IsLiteral}
use Rattle.facet_json_token.specs.Open.{IsBeginning}
use Rattle.facet_json_scan.specs.Scanner.{in_word, Describes}
use Rattle.facet_json_token.proofs.Starts.{Begins, a_word, start_of-begins}
use Rattle.facet_json_scan.proofs.Pieces.Beginnings.{BeginsBy, begins_by}

-- The bytes are a prefix of the word, if all of them are letters of it.
pub prefix_of_word : (word bytes : List ℕ) → common_len word bytes ≡ length bytes → word ≡ bytes ++ drop (length bytes) word
prefix_of_word word [] e = refl
prefix_of_word [] (b ∷ bytes) e = cc
prefix_of_word (w ∷ word) (b ∷ bytes) e =
    cond_both (b == w) (suc (common_len word bytes)) 0
    (λ n. n ≡ suc (length bytes) → w ∷ word ≡ (b ∷ bytes) ++ drop (length bytes) word)
    (λ t h. let is : b ≡ w = eqb-true b w t in
    let further : word ≡ bytes ++ drop (length bytes) word = prefix_of_word word bytes (omega arith) in cc)
    (λ t h. cc) e

-- All letters of a prefix of the word are letters of it.
pub common_len-prefix : (bytes others : List ℕ) → common_len (bytes ++ others) bytes ≡ length bytes
common_len-prefix [] [] = refl
common_len-prefix [] (w ∷ others) = refl
common_len-prefix (b ∷ bytes) others =
    ap (λ t. cond t (suc (common_len (bytes ++ others) bytes)) 0) (eq-eqb b b refl)
    ∙ ap suc (common_len-prefix bytes others)

-- The first letter of a literal is of that literal.
literal_of : (b : ℕ) (start : Start) (word : List ℕ) (kind : Kind) → Begins b start → start ≡ letter word kind →
    IsLiteral word kind
literal_of b _ word kind (a_word _ letters k h) e =
    let same_word : b ∷ letters ≡ word = cc in
    let same_kind : k ≡ kind = cc in
    subst (λ w. IsLiteral w kind) same_word (subst (IsLiteral (b ∷ letters)) same_kind h)
literal_of b _ word kind _ e = cc

-- Letters of a literal, but not all of them.
pub word-open : (mode : Mode) (b : ℕ) (bytes word : List ℕ) (kind : Kind) → start_of b ≡ letter word kind →
    common_len word (b ∷ bytes) ≡ length (b ∷ bytes) → length (b ∷ bytes) < length word →
    Describes mode in_word (b ∷ bytes)
word-open mode b bytes word kind begins all short =
    let others = drop (length (b ∷ bytes)) word in
    let is : word ≡ (b ∷ bytes) ++ others = prefix_of_word word (b ∷ bytes) all in
    let literal = literal_of b (start_of b) word kind (start_of-begins b) begins in
    Describes.literal mode (b ∷ bytes) others kind (subst (λ w. IsLiteral w kind) is literal) (λ e. cc)
    (λ e. omega (arith, length-drop (length (b ∷ bytes)) word, ap length e))

-- Where other bytes follow, or all letters stand, nothing longer begins.
pub word-shut : (mode : Mode) (b : ℕ) (bytes word : List ℕ) (kind : Kind) → start_of b ≡ letter word kind →
    (common_len word (b ∷ bytes) < length word → common_len word (b ∷ bytes) ≡ length (b ∷ bytes) → ⊥) →
    IsBeginning mode (b ∷ bytes) → ⊥
word-shut mode b bytes word kind begins shut i =
    let open_still = subst (λ s. BeginsBy s b bytes) begins (begins_by mode b bytes i) in
    let others = open_still.0 in
    let all : common_len word (b ∷ bytes) ≡ length (b ∷ bytes) =
    ap (λ w. common_len w (b ∷ bytes)) open_still.1 ∙ common_len-prefix (b ∷ bytes) others in
    shut (longer others open_still.1 open_still.2 all) all
  where
    longer : (others : List ℕ) → word ≡ (b ∷ bytes) ++ others → others ≢ [] →
        common_len word (b ∷ bytes) ≡ length (b ∷ bytes) → common_len word (b ∷ bytes) < length word
    longer [] is some all = absurd (some refl)
    longer (w ∷ others) is some all = omega (arith, ap length is, length-append (b ∷ bytes) (w ∷ others))
