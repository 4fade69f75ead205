-- Names and keys are compared letter by letter.
use Rattle.std.specs.Prelude.{ℕ, List, cond}
use Rattle.std.proofs.Common.{◌≡◌, Bool, true, false, [], ◌∷◌, length, suc, ◌==◌, refl, sym, ap, ◌∙◌, arith}
use Rattle.std.proofs.lemmas.Bool.Decides.{Decides-eqb}
use Rattle.std.proofs.lemmas.Slice.Eq.{bytes_eq-Decides}
use Rattle.std.specs.Str.{bytes_eq}
use Rattle.facet_json_token.specs.Cut.{common_len}

-- Where all letters stand in a key of the same length, it is the name.
all-letters : (name key : List ℕ) → length name ≡ length key → common_len name key ≡ length name → name ≡ key
all-letters [] [] e all = refl
all-letters [] (b ∷ key) e all = absurd (omega arith)
all-letters (a ∷ name) [] e all = absurd (omega arith)
all-letters (a ∷ name) (b ∷ key) e all = at (b == a) refl (λ h. all-letters name key (omega arith) h) all
  where
    at : (t : Bool) → (b == a) ≡ t → (common_len name key ≡ length name → name ≡ key) →
        cond t (suc (common_len name key)) 0 ≡ suc (length name) → (a ∷ name) ≡ (b ∷ key)
    at true is others all =
        let first = (Decides-eqb b a).0 is in
        let rest = others (omega arith) in cc
    at false is others all = absurd (omega arith)

letters-all : (name : List ℕ) → common_len name name ≡ length name
letters-all [] = refl
letters-all (a ∷ name) =
    ap (λ t. cond t (suc (common_len name name)) 0) ((Decides-eqb a a).1 refl) ∙ ap suc (letters-all name)

-- Texts of one length are the same where as many letters are common.
pub same-letters : (name key : List ℕ) → length name ≡ length key → (common_len name key == length name) ≡ bytes_eq name key
same-letters name key e = at (common_len name key == length name) (bytes_eq name key) refl refl
  where
    at : (t u : Bool) → (common_len name key == length name) ≡ t → bytes_eq name key ≡ u → t ≡ u
    at true true s r = refl
    at true false s r =
        let is = all-letters name key e ((Decides-eqb (common_len name key) (length name)).0 s) in
        sym ((sym r) ∙ (bytes_eq-Decides name key).1 is)
    at false true s r =
        let is = (bytes_eq-Decides name key).0 r in
        let all = ap (λ k. common_len name k) (sym is) ∙ letters-all name in
        sym s ∙ (Decides-eqb (common_len name key) (length name)).1 all
    at false false s r = refl
