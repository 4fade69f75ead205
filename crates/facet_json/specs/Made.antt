-- Trees that are written down where they are needed.
use Rattle.std.specs.Prelude.{Option, Some, None}
use Rattle.facet_json_grammar.specs.Tree.{Tree, null}

-- what it holds, or null
abbrev pub tree_or_null : {A : Type 0} → (A → Tree) → Option A → Tree
tree_or_null tree None = null
tree_or_null tree (Some a) = tree a
