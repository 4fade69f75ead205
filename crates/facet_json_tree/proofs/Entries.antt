-- Where a new member stands.
use Rattle.std.proofs.Common.{◌≡◌, ℕ, suc, ◌<◌, List, [], ◌∷◌, length, get_or, None, String, Global, string_bytes, refl, ap, arith}
use Rattle.facet_json_grammar.specs.Tree.{no_pairs, pair, Pairs}
use Rattle.facet_json_grammar.specs.Tree as tree
use Rattle.facet_json_tree.specs.Edit.{set_member}
use Rattle.facet_json_tree.specs.Inner.LastNamed.{IsLastNamed}
use Rattle.facet_json_tree.specs.Inner.WithMember.{with_member}
use Rattle.facet_json_tree.specs.Lookup.{last_member}
use Rattle.facet_json_tree.specs.Views.{tree_view, pairs_view}
use Rattle.facet_json_tree.specs.declared.tree.Tree.{Tree}
use Rattle.facet_json_tree.proofs.Edits.{has_none}
use Rattle.facet_json_tree.proofs.Lookups.{last_member-at}
use Rattle.facet_json_tree.proofs.TreeViews.{pairs_view-none}

-- There is one more member, and the last has the value.
pub record HasOneMore (ms ns : List (String Global × Tree)) (x : tree.Tree) : Type 0 where
  pub long : length ns ≡ suc (length ms)
  pub value : (d : String Global × Tree) → tree_view (get_or ns (length ms) d).1 ≡ x

after_other : (key name : List ℕ) (old x : tree.Tree) (others : Pairs) → last_member key (pair name old others) ≡ None
    → set_member key x (pair name old others) ≡ pair name old (set_member key x others)
after_other key name old x others none = let parts = has_none key name old others none in rw parts.first refl

-- a member of a name that none has stands at the end
pub set_member-end : (key : List ℕ) (x : tree.Tree) (ms ns : List (String Global × Tree)) → last_member key (pairs_view ms) ≡ None
    → pairs_view ns ≡ set_member key x (pairs_view ms) → HasOneMore ms ns x
set_member-end key x [] [] none is = cc
set_member-end key x [] (n ∷ ns) none is =
    let rest : pairs_view ns ≡ no_pairs = cc in
    let value : tree_view n.1 ≡ x = cc in
    record { long = ap (λ l. suc (length l)) (pairs_view-none ns rest); value = λ d. value }
set_member-end key x (m ∷ ms) [] none is =
    let after = after_other key (string_bytes m.0) (tree_view m.1) x (pairs_view ms) none in cc
set_member-end key x (m ∷ ms) (n ∷ ns) none is =
    let parts = has_none key (string_bytes m.0) (tree_view m.1) (pairs_view ms) none in
    let after = after_other key (string_bytes m.0) (tree_view m.1) x (pairs_view ms) none in
    let rest : pairs_view ns ≡ set_member key x (pairs_view ms) = cc in
    let more = set_member-end key x ms ns parts.rest rest in
    record { long = ap suc more.long; value = more.value }

-- nothing is added where one has the name
pub with_member-there : (key : List ℕ) (x : tree.Tree) (ms : List (String Global × Tree)) (i : ℕ) → i < length ms → IsLastNamed key ms i
    → with_member key x (pairs_view ms) ≡ pairs_view ms
with_member-there key x [] i h at = absurd (omega arith)
with_member-there key x (m ∷ ms) i h at = rw (last_member-at key (m ∷ ms) i m h at) refl

pub with_member-new : (key : List ℕ) (x : tree.Tree) (members : Pairs) → last_member key members ≡ None
    → with_member key x members ≡ set_member key x members
with_member-new key x members none = rw none refl
