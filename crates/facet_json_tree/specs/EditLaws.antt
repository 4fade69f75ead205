-- What is looked up after a change.
use Rattle.std.specs.Prelude.{◌≡◌, ◌≢◌, ℕ, List, Some, None}
use Rattle.facet_json_tree.specs.Edit.{set_member, drop_members}
use Rattle.facet_json_tree.specs.Lookup.{last_member}
use Rattle.facet_json_grammar.specs.Tree.{Tree, Pairs}

-- Once a member is set, its name finds the value,
abbrev pub SetIsFound : Type 0
SetIsFound = (key : List ℕ) (value : Tree) (members : Pairs) → last_member key (set_member key value members) ≡ Some value

-- and each other name what it found before.
abbrev pub SetKeepsOthers : Type 0
SetKeepsOthers =
    (key name : List ℕ) (value : Tree) (members : Pairs) → name ≢ key
    → last_member name (set_member key value members) ≡ last_member name members

-- Once members of a name are dropped, it finds nothing,
abbrev pub DroppedIsGone : Type 0
DroppedIsGone = (key : List ℕ) (members : Pairs) → last_member key (drop_members key members) ≡ None

-- and each other name what it found before.
abbrev pub DropKeepsOthers : Type 0
DropKeepsOthers =
    (key name : List ℕ) (members : Pairs) → name ≢ key → last_member name (drop_members key members) ≡ last_member name members
