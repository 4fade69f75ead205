-- What the types of Rust see to, value by value.
use Rattle.std.proofs.Common.{◌≡◌, ℕ, suc, ◌<◌, true, nat_lt, List, [], ◌∷◌, Result, Ok, Err, refl, sym, subst, SFits}
use Rattle.std.specs.Prelude.{ℤ, pos, negsuc, slice_index}
use Rattle.std.specs.Int.{Width}
use Rattle.std.specs.List.{list_all}
use Rattle.std.specs.Result.{OnOk}
use Rattle.std.specs.Str.{is_utf8}
use Rattle.std.proofs.lemmas.Bool.{and_from, lt-ltb}
use mir.Val.{hbits}
use Rattle.facet_json_grammar.specs.Tree.{Tree, list, pairs, Trees, no_trees, tree, Pairs, no_pairs, pair}
use Rattle.facet_json_grammar.specs.AsRead.{FitsBits, WellFormed, ItemsWellFormed, MembersWellFormed, RawParts, RawItems, RawMembers}
use Rattle.facet_json_tree.specs.Write.{IsOfRust}

-- an item before others
pub item-of_rust : (t : Tree) (items : Trees) → IsOfRust t → IsOfRust (list items) → IsOfRust (list (tree t items))
unfolding WellFormed ItemsWellFormed RawParts RawItems
item-of_rust t items first others = ((first.0, others.0), (first.1, others.1))

-- no item
pub no_item-of_rust : IsOfRust (list no_trees)
unfolding WellFormed ItemsWellFormed RawParts RawItems
no_item-of_rust = (tt, tt)

-- a member before others
pub member-of_rust : (key : List ℕ) (t : Tree) (members : Pairs) → is_utf8 key ≡ true → IsOfRust t → IsOfRust (pairs members)
    → IsOfRust (pairs (pair key t members))
unfolding WellFormed MembersWellFormed RawParts RawMembers
member-of_rust key t members name value others = ((name, value.0, others.0), (value.1, others.1))

-- no member
pub no_member-of_rust : IsOfRust (pairs no_pairs)
unfolding WellFormed MembersWellFormed RawParts RawMembers
no_member-of_rust = (tt, tt)

-- a signed number within its bits
pub fits-within : (w : Width) (n : ℤ) → SFits w n → FitsBits (hbits w) n
fits-within w (pos n) h = h.sfits
fits-within w (negsuc n) h = h.sfits

-- bytes, each of which is one
pub bytes-below : (bytes : List ℕ) → ((i : ℕ) → slice_index bytes i < 256) → list_all (λ b. nat_lt b 0x100) bytes ≡ true
bytes-below [] below = refl
bytes-below (b ∷ bytes) below =
    let others = bytes-below bytes (λ i. below (suc i)) in and_from (nat_lt b 0x100) _ (lt-ltb b 0x100 (below 0)) others

-- what holds of a tree holds of what is seen to be it, whatever was answered
pub seen-of_rust : {E : Type 0} (r : Result (Unit {0}) E) (t u : Tree) → t ≡ u → IsOfRust u → OnOk r (IsOfRust t)
seen-of_rust (Ok nothing) t u e h = subst IsOfRust (sym e) h
seen-of_rust (Err why) t u e h = tt
