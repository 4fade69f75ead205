-- The token that is cut of a number, from its parts.
use Rattle.std.proofs.Common.{◌≡◌, ℕ, ◌+◌, ◌≤◌, false, ◌==◌, List, [], ◌∷◌, ap, ap₂, sym, ◌∙◌, arith}
use Rattle.std.proofs.lemmas.Bool.{cond_both}
use Rattle.facet_format.specs.Bytes.{minus}
use Rattle.facet_format.specs.Number.{Hint}
use Rattle.facet_format.specs.NumberParts.{Parts, parts, parts_len, parts_hint, is_bare}
use Rattle.facet_json_token.specs.Token.{Token, number}
use Rattle.facet_json_token.specs.Cut.{Cut, token, token_at, cut_bare_minus, cut_number}

-- what is cut of a number with these parts
abbrev pub number_at : ℕ → List ℕ → Parts → Cut
number_at at bytes p = cut_number at bytes (parts_len p) (parts_hint p) (is_bare p)

-- The token of a number with these parts is cut where they stand.
pub cut_number-parts : (q p : Parts) (rest : List ℕ) (hint : Hint) (at len : ℕ) → q ≡ p → len ≡ parts_len q →
    hint ≡ parts_hint q → is_bare q ≡ false →
    token_at (number at (at + len) hint) at len ≡ cut_number at rest (parts_len p) (parts_hint p) (is_bare p)
cut_number-parts q p rest hint at len same long what more =
    ap₂ (λ n h. token_at (number at (at + n) h) at n) long what
    ∙ ap (cut_number at rest (parts_len q) (parts_hint q)) (sym more)
    ∙ ap (λ r. cut_number at rest (parts_len r) (parts_hint r) (is_bare r)) same

-- A minus alone is no token.
pub bare_minus-no_token : (at : ℕ) (bytes : List ℕ) (t : Token) → cut_bare_minus at bytes ≡ token t → ⊥
bare_minus-no_token at [] t e = cc
bare_minus-no_token at (b ∷ bytes) t e = cc

-- A number's sign is one byte at most.
pub sign-bound : (bytes : List ℕ) → (parts bytes).sign ≤ 1
unfolding parts
sign-bound [] = omega arith
sign-bound (b ∷ bytes) = cond_both (b == minus) 1 0 (λ n. n ≤ 1) (λ e. omega arith) (λ e. omega arith)
