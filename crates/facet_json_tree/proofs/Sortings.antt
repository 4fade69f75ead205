-- What sorting a list of the code leaves in its view.
use Rattle.std.proofs.Common.{◌≡◌, Bool, true, false, List, [], ◌∷◌, ◌++◌, String, Global, string_bytes, if◌then◌else◌, refl, ap, ◌∙◌}
use Rattle.std.specs.Cmp.{IsStrictWeakOrder}
use Rattle.std.specs.Cmp.Lexicographic.{nat_list_cmp_total}
use Rattle.std.specs.List.Sorted.{IsSortedBy, IsStableBy}
use Rattle.std.proofs.lemmas.List.Sorted.{ranks_by}
use Rattle.facet_json_grammar.specs.Tree.{Pairs, no_pairs, pair, Trees, no_trees}
use Rattle.facet_json_grammar.specs.Tree as tree
use Rattle.facet_json_tree.specs.Sorted.{is_before, put_member, in_order, sorted, items_sorted, values_sorted}
use Rattle.facet_json_tree.specs.Views.{tree_view, trees_view, pairs_view}
use Rattle.facet_json_tree.specs.declared.tree.Tree.{Tree}
use Rattle.facet_json_tree.proofs.StableOrder.{put, put_all, stable-is_by_insertion}

-- ---- one object

abbrev pub by_name : String Global × Tree → String Global × Tree → Bool
by_name one other = is_before (string_bytes one.0) (string_bytes other.0)

pub by_name-order : IsStrictWeakOrder by_name
by_name-order = ranks_by nat_list_cmp_total (λ (m : String Global × Tree). string_bytes m.0)

put_by : (b : Bool) (m n : String Global × Tree) (ms : List (String Global × Tree)) (ps : Pairs) → pairs_view (put by_name m ms) ≡ ps
    → pairs_view (if b then n ∷ put by_name m ms else m ∷ n ∷ ms)
    ≡ if b then pair (string_bytes n.0) (tree_view n.1) ps else pair (string_bytes m.0) (tree_view m.1) (pairs_view (n ∷ ms))
put_by true m n ms ps e = ap (pair (string_bytes n.0) (tree_view n.1)) e
put_by false m n ms ps e = refl

put-view : (m : String Global × Tree) (ms : List (String Global × Tree))
    → pairs_view (put by_name m ms) ≡ put_member (string_bytes m.0) (tree_view m.1) (pairs_view ms)
put-view m [] = refl
put-view m (n ∷ ms) = put_by (by_name n m) m n ms (put_member (string_bytes m.0) (tree_view m.1) (pairs_view ms)) (put-view m ms)

put_all-view : (ms : List (String Global × Tree)) → pairs_view (put_all by_name ms) ≡ in_order (pairs_view ms)
put_all-view [] = refl
put_all-view (m ∷ ms) = put-view m (put_all by_name ms) ∙ ap (put_member (string_bytes m.0) (tree_view m.1)) (put_all-view ms)

-- a stable sort by the names
pub sort-in_order : (ms ns : List (String Global × Tree)) → IsSortedBy by_name ns → IsStableBy by_name ms ns
    → pairs_view ns ≡ in_order (pairs_view ms)
sort-in_order ms ns ascends stable =
    ap pairs_view (stable-is_by_insertion by_name by_name-order ms ns ascends stable) ∙ put_all-view ms

-- ---- one more item or member on both sides

pub items_sorted-grown : (xs ys : List Tree) (x y : Tree) → trees_view xs ≡ items_sorted (trees_view ys) → tree_view x ≡ sorted (tree_view y)
    → trees_view (xs ++ x ∷ []) ≡ items_sorted (trees_view (ys ++ y ∷ []))
items_sorted-grown [] [] x y e same = ap (λ t. tree.tree t no_trees) same
items_sorted-grown [] (b ∷ ys) x y e same = cc
items_sorted-grown (a ∷ xs) [] x y e same = cc
items_sorted-grown (a ∷ xs) (b ∷ ys) x y e same =
    let rest : trees_view xs ≡ items_sorted (trees_view ys) = cc in
    let first : tree_view a ≡ sorted (tree_view b) = cc in let more = items_sorted-grown xs ys x y rest same in cc

pub values_sorted-grown : (ps qs : List (String Global × Tree)) (k : String Global) (x : Tree) (q : String Global × Tree)
    → pairs_view ps ≡ values_sorted (pairs_view qs) → string_bytes k ≡ string_bytes q.0 → tree_view x ≡ sorted (tree_view q.1)
    → pairs_view (ps ++ (k, x) ∷ []) ≡ values_sorted (pairs_view (qs ++ q ∷ []))
values_sorted-grown [] [] k x q e key same = cc
values_sorted-grown [] (b ∷ qs) k x q e key same = cc
values_sorted-grown (a ∷ ps) [] k x q e key same = cc
values_sorted-grown (a ∷ ps) (b ∷ qs) k x q e key same =
    let rest : pairs_view ps ≡ values_sorted (pairs_view qs) = cc in
    let name : string_bytes a.0 ≡ string_bytes b.0 = cc in
    let value : tree_view a.1 ≡ sorted (tree_view b.1) = cc in let more = values_sorted-grown ps qs k x q rest key same in cc
