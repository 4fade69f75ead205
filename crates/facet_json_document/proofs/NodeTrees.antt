-- The trees of a list's items and of an object's members are those that begin at their nodes.
use Rattle.std.proofs.Common.{◌≡◌, ℕ, zero, suc, Bool, true, false, List, [], ◌∷◌, length, drop, map, Option, Some, None, refl, sym, ap, ap₂, ◌∙◌}
use Rattle.std.specs.Prelude.{slice_get, if◌then◌else◌}
use Rattle.std.specs.Option.{option_map, option_or}
use Rattle.facet_json_grammar.specs.Tree.{Tree}
use Rattle.facet_json_grammar.specs.Tree as trees
use Rattle.facet_json_tree.specs.Lookup.{item_at, last_member}
use Rattle.facet_json_tree.specs.Same.{same_bytes}
use Rattle.facet_json_document.specs.Nodes.{Node, leaf, key, list, object, closing, nothing, inner_len, items, members, last_named, item_trees, member_trees, first_value, values, trees_len, pairs_len, trees_list, pairs_list, member_value}
use Rattle.facet_json_document.specs.Inner.Looking.{trees_from, pairs_from}

-- ---- behind so many nodes

pub items-skip : (n : ℕ) (nodes : List Node) → items n nodes ≡ items 0 (drop n nodes)
items-skip zero nodes = refl
items-skip (suc n) [] = refl
items-skip (suc n) (x ∷ nodes) = items-skip n nodes

pub members-skip : (n : ℕ) (nodes : List Node) → members n nodes ≡ members 0 (drop n nodes)
members-skip zero nodes = refl
members-skip (suc n) [] = refl
members-skip (suc n) (x ∷ nodes) = members-skip n nodes

-- ---- items and members behind nodes

pub item-trees : (n : ℕ) (nodes : List Node) → item_trees n (values nodes) ≡ trees_from (items n nodes)
unfolding values
item-trees n [] = refl
item-trees (suc n) (x ∷ nodes) = item-trees n nodes
item-trees zero (closing ∷ nodes) = refl
item-trees zero (leaf text t ∷ nodes) = ap (trees.tree t) (item-trees 0 nodes)
item-trees zero (key name ∷ nodes) = ap (trees.tree nothing) (item-trees 0 nodes)
item-trees zero (list text k ∷ nodes) = ap (trees.tree (first_value (list text k ∷ nodes))) (item-trees k nodes)
item-trees zero (object text k ∷ nodes) = ap (trees.tree (first_value (object text k ∷ nodes))) (item-trees k nodes)

pub member-trees : (n : ℕ) (nodes : List Node) → member_trees n (values nodes) ≡ pairs_from (members n nodes)
unfolding values
member-trees n [] = refl
member-trees (suc n) (x ∷ nodes) = member-trees n nodes
member-trees zero (key name ∷ []) = refl
member-trees zero (key name ∷ (x ∷ nodes)) = ap (trees.pair name (first_value (x ∷ nodes))) (member-trees (inner_len x) nodes)
member-trees zero (closing ∷ nodes) = refl
member-trees zero (leaf text t ∷ nodes) = refl
member-trees zero (list text k ∷ nodes) = refl
member-trees zero (object text k ∷ nodes) = refl

-- ---- one of them, and how many

pub item_at-from : (i : ℕ) (xs : List (List Node)) → item_at i (trees_from xs) ≡ option_map first_value (slice_get xs i)
item_at-from i [] = refl
item_at-from zero (x ∷ xs) = refl
item_at-from (suc i) (x ∷ xs) = item_at-from i xs

or-mapped : (behind here : Option (List Node)) → option_map first_value (option_or behind here) ≡ option_or (option_map first_value behind) (option_map first_value here)
or-mapped None here = refl
or-mapped (Some x) here = refl

pub last-from : (name : List ℕ) (ms : List (List ℕ × List Node)) → last_member name (pairs_from ms) ≡ option_map first_value (last_named name ms)
last-from name [] = refl
last-from name (m ∷ ms) =
    ap₂ option_or (last-from name ms) (one (same_bytes m.0 name))
    ∙ sym (or-mapped (last_named name ms) (if same_bytes m.0 name then Some m.1 else None))
  where
    one : (b : Bool) → (if b then Some (first_value m.1) else None) ≡ option_map first_value (if b then Some m.1 else None)
    one true = refl
    one false = refl

pub trees_len-from : (xs : List (List Node)) → trees_len (trees_from xs) ≡ length xs
trees_len-from [] = refl
trees_len-from (x ∷ xs) = ap suc (trees_len-from xs)

pub pairs_len-from : (ms : List (List ℕ × List Node)) → pairs_len (pairs_from ms) ≡ length ms
pairs_len-from [] = refl
pairs_len-from (m ∷ ms) = ap suc (pairs_len-from ms)

pub trees_list-from : (xs : List (List Node)) → trees_list (trees_from xs) ≡ map first_value xs
trees_list-from [] = refl
trees_list-from (x ∷ xs) = ap (λ l. first_value x ∷ l) (trees_list-from xs)

pub pairs_list-from : (ms : List (List ℕ × List Node)) → pairs_list (pairs_from ms) ≡ map member_value ms
pairs_list-from [] = refl
pairs_list-from (m ∷ ms) = ap (λ l. member_value m ∷ l) (pairs_list-from ms)
