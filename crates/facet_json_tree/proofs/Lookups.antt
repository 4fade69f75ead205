-- What is looked up in a list of the code, and what its view has.
use Rattle.std.proofs.Common.{◌≡◌, ℕ, zero, suc, ◌+◌, ◌<◌, ◌≤◌, false, List, [], ◌∷◌, length, get_or, drop, Some, None, String, Global, string_bytes, refl, sym, ap, ◌∙◌, arith}
use Rattle.std.proofs.lemmas.List.{get_or_default}
use Rattle.std.specs.Cmp.Lexicographic.{bytes_decides}
use Rattle.facet_json_grammar.specs.Tree.{pair, Pairs}
use Rattle.facet_json_grammar.specs.Tree as tree
use Rattle.facet_json_tree.specs.Inner.LastNamed.{IsLastNamed}
use Rattle.facet_json_tree.specs.Lookup.{last_member, item_at}
use Rattle.facet_json_tree.specs.Same.{same_bytes}
use Rattle.facet_json_tree.specs.Views.{tree_view, trees_view, pairs_view}
use Rattle.facet_json_tree.specs.declared.tree.Tree.{Tree}
use Rattle.facet_json_tree.proofs.TreeViews.{pairs_view-drop}

-- a member that comes later counts, whatever comes before it
pub last_member-later : (key : List ℕ) (ms : List (String Global × Tree)) (i : ℕ) (x : tree.Tree)
    → last_member key (pairs_view (drop i ms)) ≡ Some x → last_member key (pairs_view ms) ≡ Some x
last_member-later key [] zero x e = e
last_member-later key [] (suc i) x e = e
last_member-later key (m ∷ ms) zero x e = e
last_member-later key (m ∷ ms) (suc i) x e = rw (last_member-later key ms i x e)

-- the first member counts where it has the name and none after it has
pub last_member-here : (key name : List ℕ) (x : tree.Tree) (more : Pairs) → name ≡ key → last_member key more ≡ None
    → last_member key (pair name x more) ≡ Some x
last_member-here key name x more named last = rw (last, named, (bytes_decides key key).1 refl)

-- and does not where it hasn't
pub last_member-not : (key name : List ℕ) (x : tree.Tree) (more : Pairs) → same_bytes name key ≡ false
    → last_member key more ≡ None → last_member key (pair name x more) ≡ None
last_member-not key name x more other last = rw (last, other)

-- so does the member at an index
pub last_member-at : (key : List ℕ) (ms : List (String Global × Tree)) (i : ℕ) (d : String Global × Tree)
    → i < length ms → IsLastNamed key ms i → last_member key (pairs_view ms) ≡ Some (tree_view (get_or ms i d).1)
last_member-at key ms i d h at =
    let m = get_or ms i d in
    let is : m ≡ get_or ms i m = get_or_default ms i d m h in
    let here = last_member-here key (string_bytes m.0) (tree_view m.1) (pairs_view (drop (i + 1) ms)) (at.named d) at.last in
    last_member-later key ms i (tree_view m.1) (ap (last_member key) (pairs_view-drop ms i m h is) ∙ here)

-- an item within the list, and one past its end
item_at-within : (xs : List Tree) (i : ℕ) (d : Tree) → i < length xs → item_at i (trees_view xs) ≡ Some (tree_view (get_or xs i d))
item_at-within [] i d h = absurd (omega arith)
item_at-within (x ∷ xs) zero d h = refl
item_at-within (x ∷ xs) (suc i) d h = item_at-within xs i d (omega arith)

pub item_at-read : {x : Tree} (xs : List Tree) (i : ℕ) (d : Tree) → i < length xs → x ≡ get_or xs i d → Some (tree_view x) ≡ item_at i (trees_view xs)
item_at-read xs i d h is = ap (λ y. Some (tree_view y)) is ∙ sym (item_at-within xs i d h)

pub item_at-past : (xs : List Tree) (i : ℕ) → length xs ≤ i → item_at i (trees_view xs) ≡ None
item_at-past [] i h = refl
item_at-past (x ∷ xs) zero h = absurd (omega arith)
item_at-past (x ∷ xs) (suc i) h = item_at-past xs i (omega arith)
