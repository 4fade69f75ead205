-- Which index a reference token is.
use Rattle.std.proofs.Common.{◌≡◌, ◌≢◌, ℕ, ◌≤◌, ◌^◌, Bool, true, false, ◌==◌, ◌&&◌, not, List, [], ◌∷◌, length, Option, Some, None, refl, sym, ap, ◌∙◌, subst, ⊎_elim, arith, if◌then◌else◌}
use Rattle.std.proofs.Math.Bool.{and-true, and-false}
use Rattle.std.specs.List.{list_all}
use Rattle.std.specs.Prelude.{IfSome, option_and_then}
use Rattle.std.proofs.lemmas.Bool.{cases_eq, and_parts}
use Rattle.facet_format.specs.Bytes.{slash, is_digit}
use Rattle.facet_json_tree.specs.Inner.PointerParts.{unescaped}
use Rattle.facet_json_tree.specs.Lookup.{item_at}
use Rattle.facet_json_tree.specs.Views.{trees_view}
use Rattle.facet_json_tree.specs.declared.tree.Tree.{Tree as RustTree}
use Rattle.facet_json_tree.proofs.Lookups.{item_at-past}
use Rattle.facet_json_tree.specs.Pointer.{tilde, index}
use Rattle.facet_json_tree.proofs.PointerTokens.{unescaped-plain}

-- ---- an escape is no digit, and neither is what it stands for

no_digit : (is_zero is_one : Bool) (xs ys zs : List ℕ)
    → list_all is_digit (if is_zero then tilde ∷ xs else if is_one then slash ∷ ys else tilde ∷ zs) ≡ false
no_digit true is_one xs ys zs = refl
no_digit false true xs ys zs = refl
no_digit false false xs ys zs = refl

list_all-unescaped : (token : List ℕ) → list_all is_digit (unescaped token) ≡ list_all is_digit token
list_all-unescaped [] = refl
list_all-unescaped (b ∷ []) = refl
list_all-unescaped (b ∷ c ∷ token) = ⊎_elim escape (other (list_all-unescaped (c ∷ token))) (cases_eq b tilde)
  where
    escape : b ≡ tilde → list_all is_digit (unescaped (b ∷ c ∷ token)) ≡ list_all is_digit (b ∷ c ∷ token)
    escape is = subst (λ (d : ℕ). list_all is_digit (unescaped (d ∷ c ∷ token)) ≡ list_all is_digit (d ∷ c ∷ token)) (sym is)
        (no_digit (c == 0x30) (c == 0x31) (unescaped token) (unescaped token) (unescaped (c ∷ token)))

    other : list_all is_digit (unescaped (c ∷ token)) ≡ list_all is_digit (c ∷ token) → b ≢ tilde
        → list_all is_digit (unescaped (b ∷ c ∷ token)) ≡ list_all is_digit (b ∷ c ∷ token)
    other rest no_tilde = ap (list_all is_digit) (unescaped-plain b (c ∷ token) no_tilde)
        ∙ ap (λ digits. is_digit b && digits) rest

digit_no_tilde : (b : ℕ) → is_digit b ≡ true → b ≢ tilde
digit_no_tilde b is e = let at : is_digit tilde ≡ true = subst (λ (d : ℕ). is_digit d ≡ true) e is in cc

digits-unescaped : (token : List ℕ) → list_all is_digit token ≡ true → unescaped token ≡ token
digits-unescaped [] are = refl
digits-unescaped (b ∷ token) are =
    let both = and_parts (is_digit b) (list_all is_digit token) are in
    unescaped-plain b token (digit_no_tilde b both.0) ∙ ap (λ xs. b ∷ xs) (digits-unescaped token both.1)

-- ---- so a token and what it stands for are the same index

index-none : (text : List ℕ) → list_all is_digit text ≡ false → index text ≡ None
index-none [] no_digits = refl
index-none (b ∷ []) no_digits = rw (sym (and-true (is_digit b)) ∙ no_digits)
index-none (b ∷ c ∷ text) no_digits = rw (no_digits, and-false (not (b == 0x30)))

pub index-unescaped : (token : List ℕ) → index (unescaped token) ≡ index token
index-unescaped token = by (list_all is_digit token) refl
  where
    by : (all : Bool) → list_all is_digit token ≡ all → index (unescaped token) ≡ index token
    by true e = ap index (digits-unescaped token e)
    by false e = index-none (unescaped token) (list_all-unescaped token ∙ e) ∙ sym (index-none token e)

-- A list has no item at an index past 64 bits.
pub item_at-large : (items : List RustTree) (o : Option ℕ) → length items ≤ 2 ^ 64 → IfSome o (λ i. 2 ^ 64 ≤ i)
    → option_and_then (λ i. item_at i (trees_view items)) o ≡ None
item_at-large items None few large = refl
item_at-large items (Some i) few large = item_at-past items i (omega arith)
