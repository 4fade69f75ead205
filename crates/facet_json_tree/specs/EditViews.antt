-- What a refusal to store a value tells. It names a type of the code.
use Rattle.std.specs.Prelude.{◌≡◌, ℕ, List, Option, Some, None, IsSome, codes}
use Rattle.facet_json_grammar.specs.Tree.{Tree}
use Rattle.facet_json_tree.specs.Views.{tree_view}
use Rattle.facet_json_tree.specs.declared.tree.Tree.{Tree as RustTree}
use Rattle.facet_json_tree.specs.declared.not_stored.NotStored.{NotStored}
use Rattle.facet_json_tree.specs.declared.not_stored.NotStored.TheVariants.{WrongKind, Memory}

-- the value that was not stored
abbrev pub value_of : NotStored → RustTree
value_of (WrongKind t) = t
value_of (Memory t) = t

-- It says why, by what would have become of the tree: nothing, as it is of the wrong kind; or something, for which memory was wanting.
abbrev pub SaysWhy : NotStored → Option Tree → Type 0
SaysWhy (WrongKind t) becomes = becomes ≡ None
SaysWhy (Memory t) becomes = IsSome becomes

-- It is for lack of memory.
abbrev pub IsMemory : NotStored → Type 0
IsMemory (WrongKind t) = ⊥
IsMemory (Memory t) = Unit {0}

-- The value comes back, and the reason is told.
pub record GivesBack (error : NotStored) (value : Tree) (becomes : Option Tree) : Type 0 where
  pub given : tree_view (value_of error) ≡ value
  pub why : SaysWhy error becomes

-- how it is displayed
abbrev pub not_stored_message : NotStored → Option (List ℕ)
not_stored_message (WrongKind t) = Some (codes "only a list has items, and only an object has members")
not_stored_message (Memory t) = Some (codes "out of memory")
