-- The trees that were copied of a list's items and an object's members are theirs.
use Rattle.std.proofs.Common.{◌≡◌, ℕ, suc, List, [], ◌∷◌, ◌++◌, map, drop, get_or, refl, sym, ap, ap₂, ◌∙◌, String, Global, string_bytes}
use Rattle.std.proofs.lemmas.List.{append-nil}
use Rattle.facet_json_grammar.specs.Tree.{Tree, Trees, no_trees, tree, Pairs, no_pairs, pair}
use Rattle.facet_json_tree.specs.Views.{tree_view, trees_view, pairs_view}
use Rattle.facet_json_tree.specs.declared.tree.Tree.{Tree as RustTree}
use Rattle.facet_json_document.specs.Nodes.{items, members, trees_list, pairs_list}
use Rattle.facet_json_document.specs.Inner.Looking.{from, trees_from, pairs_from, trees_at, pairs_at}
use Rattle.facet_json_document.specs.declared.document.value.Value.{Value}

-- a member that was copied
abbrev pub member_seen : String Global × RustTree → List ℕ × Tree
member_seen m = (string_bytes m.0, tree_view m.1)

-- These were copied, and others are left.
abbrev pub ItemsCopied : Value → List RustTree → ℕ → Type 0
ItemsCopied v copies at = trees_list (trees_at v (suc v.index)) ≡ map tree_view copies ++ trees_list (trees_at v at)

abbrev pub MembersCopied : Value → List (String Global × RustTree) → ℕ → Type 0
MembersCopied v copies at = pairs_list (pairs_at v (suc v.index)) ≡ map member_seen copies ++ pairs_list (pairs_at v at)

one-more : {X Y : Type 0} (f : X → Y) (xs : List X) (x : X) (y : Y) (rest : List Y) → f x ≡ y → map f xs ++ y ∷ rest ≡ map f (xs ++ x ∷ []) ++ rest
one-more f [] x y rest e = ap (λ z. z ∷ rest) (sym e)
one-more f (z ∷ xs) x y rest e = ap (λ l. f z ∷ l) (one-more f xs x y rest e)

all-items : (copies : List RustTree) (ts : Trees) → trees_list ts ≡ map tree_view copies → trees_view copies ≡ ts
all-items [] no_trees e = refl
all-items [] (tree t ts) e = cc
all-items (x ∷ copies) no_trees e = cc
all-items (x ∷ copies) (tree t ts) e =
    let first : t ≡ tree_view x = cc in
    let more : trees_list ts ≡ map tree_view copies = cc in
    ap₂ tree (sym first) (all-items copies ts more)

all-members : (copies : List (String Global × RustTree)) (ps : Pairs) → pairs_list ps ≡ map member_seen copies → pairs_view copies ≡ ps
all-members [] no_pairs e = refl
all-members [] (pair name t ps) e = cc
all-members (x ∷ copies) no_pairs e = cc
all-members ((text, copy) ∷ copies) (pair name t ps) e =
    let first : (name, t) ≡ (string_bytes text, tree_view copy) = ap (λ l. get_or l 0 (name, t)) e in
    let more : pairs_list ps ≡ map member_seen copies = ap (drop 1) e in
    ap₂ (λ n u. pair n u (pairs_view copies)) (sym (ap (λ m. m.0) first)) (sym (ap (λ m. m.1) first)) ∙ ap (pair name t) (all-members copies ps more)

-- Where none is left, all were copied.
pub items-copied : (v : Value) (copies : List RustTree) (at : ℕ) → ItemsCopied v copies at → items 0 (from v at) ≡ [] →
    trees_view copies ≡ trees_at v (suc v.index)
items-copied v copies at so none =
    all-items copies _ (so ∙ ap (λ xs. map tree_view copies ++ trees_list (trees_from xs)) none ∙ append-nil (map tree_view copies))

pub members-copied : (v : Value) (copies : List (String Global × RustTree)) (at : ℕ) → MembersCopied v copies at → members 0 (from v at) ≡ [] →
    pairs_view copies ≡ pairs_at v (suc v.index)
members-copied v copies at so none =
    all-members copies _ (so ∙ ap (λ ms. map member_seen copies ++ pairs_list (pairs_from ms)) none ∙ append-nil (map member_seen copies))
