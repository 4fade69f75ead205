-- What a change of a list of the code leaves in its view.
use Rattle.std.proofs.Common.{◌≡◌, ℕ, zero, suc, ◌+◌, ◌<◌, Bool, true, false, not, List, [], ◌∷◌, ◌++◌, length, get_or, drop, Option, Some, None, if◌then◌else◌, String, Global, string_bytes, refl, sym, ap, subst, ◌∙◌, arith}
use Rattle.std.specs.Prelude.{slice_set, ◌&&◌, ◌≤◌, is_none, cond}
use Rattle.facet_json_tree.proofs.Lookups.{last_member-at}
use Rattle.std.specs.List.{filter, remove}
use Rattle.std.specs.Option.{option_or}
use Rattle.std.specs.Cmp.Lexicographic.{bytes_decides}
use Rattle.facet_json_grammar.specs.Tree.{Pairs, no_pairs, pair}
use Rattle.facet_json_grammar.specs.Tree as tree
use Rattle.facet_json_tree.specs.Edit.{push_item, drop_item, set_member, drop_members}
use Rattle.facet_json_tree.specs.Inner.LastNamed.{IsLastNamed}
use Rattle.facet_json_tree.specs.Lookup.{last_member}
use Rattle.facet_json_tree.specs.Same.{same_bytes}
use Rattle.facet_json_tree.specs.Views.{tree_view, trees_view, pairs_view}
use Rattle.facet_json_tree.specs.declared.tree.Tree.{Tree}

-- ---- items

pub push_item-view : (xs : List Tree) (x : Tree) → trees_view (xs ++ x ∷ []) ≡ push_item (tree_view x) (trees_view xs)
push_item-view [] x = refl
push_item-view (y ∷ xs) x = ap (tree.tree (tree_view y)) (push_item-view xs x)

pub drop_item-view : (xs : List Tree) (i : ℕ) → trees_view (remove xs i) ≡ drop_item i (trees_view xs)
drop_item-view [] zero = refl
drop_item-view [] (suc i) = refl
drop_item-view (x ∷ xs) zero = refl
drop_item-view (x ∷ xs) (suc i) = ap (tree.tree (tree_view x)) (drop_item-view xs i)

pub drop_item-past : (xs : List Tree) (i : ℕ) → length xs ≤ i → drop_item i (trees_view xs) ≡ trees_view xs
drop_item-past [] zero h = refl
drop_item-past [] (suc i) h = refl
drop_item-past (x ∷ xs) zero h = absurd (omega arith)
drop_item-past (x ∷ xs) (suc i) h = ap (tree.tree (tree_view x)) (drop_item-past xs i (omega arith))

-- ---- members

-- The last member of the name stands there, within the list.
pub record StandsLast (key : List ℕ) (ms : List (String Global × Tree)) (i : ℕ) : Type 0 where
  pub within : i < length ms
  pub last : IsLastNamed key ms i

pub stands_last : (key : List ℕ) (seen ms : List (String Global × Tree)) (i : ℕ) → seen ≡ ms → i < length seen → IsLastNamed key seen i
    → StandsLast key ms i
stands_last key seen ms i same within last =
    record { within = subst (λ xs. i < length xs) same within; last = subst (λ xs. IsLastNamed key xs i) same last }

-- No member of the name comes first, and none after it.
pub record HasNone (key name : List ℕ) (others : Pairs) : Type 0 where
  pub first : same_bytes name key ≡ false
  pub rest : last_member key others ≡ None

by_last : (o : Option tree.Tree) (same : Bool) (x : tree.Tree) → option_or o (if same then Some x else None) ≡ None
    → (same ≡ false) × (o ≡ None)
by_last (Some y) same x e = cc
by_last None true x e = cc
by_last None false x e = (refl, refl)

pub has_none : (key name : List ℕ) (x : tree.Tree) (others : Pairs) → last_member key (pair name x others) ≡ None → HasNone key name others
has_none key name x others e =
    let parts = by_last (last_member key others) (same_bytes name key) x e in record { first = parts.0; rest = parts.1 }

-- where none has the name a new one comes last
pub set_member-new : (ps : List (String Global × Tree)) (k : String Global) (x : Tree) → last_member (string_bytes k) (pairs_view ps) ≡ None
    → pairs_view (ps ++ (k, x) ∷ []) ≡ set_member (string_bytes k) (tree_view x) (pairs_view ps)
set_member-new [] k x none = refl
set_member-new (p ∷ ps) k x none =
    let parts = has_none (string_bytes k) (string_bytes p.0) (tree_view p.1) (pairs_view ps) none in
    rw parts.first (ap (pair (string_bytes p.0) (tree_view p.1)) (set_member-new ps k x parts.rest))

-- else the last of them has the new value
named_here : (key name : List ℕ) (old x : tree.Tree) (others : Pairs) → name ≡ key → last_member key others ≡ None
    → set_member key x (pair name old others) ≡ pair name x others
named_here key name old x others named last = rw (last, named, (bytes_decides key key).1 refl)

by_some : (o : Option tree.Tree) (y : tree.Tree) (same : Bool) → o ≡ Some y → (same && is_none o) ≡ false
by_some o y true some = ap is_none some
by_some o y false some = refl

named_later : (key name : List ℕ) (old x y : tree.Tree) (others : Pairs) → last_member key others ≡ Some y
    → set_member key x (pair name old others) ≡ pair name old (set_member key x others)
named_later key name old x y others later = rw (by_some (last_member key others) y (same_bytes name key) later)

pub set_member-last : (key : List ℕ) (ms : List (String Global × Tree)) (i : ℕ) (m : String Global × Tree) (w : Tree)
    → i < length ms → m ≡ get_or ms i m → IsLastNamed key ms i
    → pairs_view (slice_set ms i (m.0, w)) ≡ set_member key (tree_view w) (pairs_view ms)
set_member-last key [] i m w h is at = absurd (omega arith)
set_member-last key (n ∷ ms) zero m w h is at =
    ap (λ k. pair (string_bytes k.0) (tree_view w) (pairs_view ms)) is
    ∙ sym (named_here key (string_bytes n.0) (tree_view n.1) (tree_view w) (pairs_view ms) (at.named m) at.last)
set_member-last key (n ∷ ms) (suc i) m w h is at =
    let within : i < length ms = omega arith in
    let next : suc (i + 1) ≡ suc i + 1 = omega arith in
    let last : last_member key (pairs_view (drop (suc (i + 1)) (n ∷ ms))) ≡ None =
    ap (λ k. last_member key (pairs_view (drop k (n ∷ ms)))) next ∙ at.last in
    let behind : IsLastNamed key ms i = record { named = at.named; last = last } in
    ap (pair (string_bytes n.0) (tree_view n.1)) (set_member-last key ms i m w within is behind)
    ∙ sym (named_later key (string_bytes n.0) (tree_view n.1) (tree_view w) (tree_view (get_or ms i m).1) (pairs_view ms)
    (last_member-at key ms i m within behind))

-- where none has the name none goes
pub drop_members-none : (key : List ℕ) (ps : Pairs) → last_member key ps ≡ None → drop_members key ps ≡ ps
drop_members-none key no_pairs none = refl
drop_members-none key (pair name x others) none =
    let parts = has_none key name x others none in rw parts.first (ap (pair name x) (drop_members-none key others parts.rest))

-- one of them may go before
pub drop_members-remove : (key : List ℕ) (ms : List (String Global × Tree)) (i : ℕ) (m : String Global × Tree)
    → i < length ms → string_bytes (get_or ms i m).0 ≡ key → drop_members key (pairs_view (remove ms i)) ≡ drop_members key (pairs_view ms)
drop_members-remove key [] i m h named = absurd (omega arith)
drop_members-remove key (n ∷ ms) zero m h named = rw (named, (bytes_decides key key).1 refl)
drop_members-remove key (n ∷ ms) (suc i) m h named =
    ap (λ ps. if same_bytes (string_bytes n.0) key then ps else pair (string_bytes n.0) (tree_view n.1) ps)
    (drop_members-remove key ms i m (omega arith) named)

abbrev pub has_other_name : List ℕ → String Global × Tree → Bool
has_other_name key m = not (same_bytes (string_bytes m.0) key)

by_same : (same : Bool) (m : String Global × Tree) (ms : List (String Global × Tree)) (ps : Pairs) → pairs_view ms ≡ ps
    → pairs_view (cond (not same) (m ∷ ms) ms) ≡ if same then ps else pair (string_bytes m.0) (tree_view m.1) ps
by_same true m ms ps e = e
by_same false m ms ps e = ap (pair (string_bytes m.0) (tree_view m.1)) e

pub drop_members-filter : (key : List ℕ) (ms : List (String Global × Tree))
    → pairs_view (filter (has_other_name key) ms) ≡ drop_members key (pairs_view ms)
drop_members-filter key [] = refl
drop_members-filter key (m ∷ ms) =
    by_same (same_bytes (string_bytes m.0) key) m (filter (has_other_name key) ms) (drop_members key (pairs_view ms)) (drop_members-filter key ms)
