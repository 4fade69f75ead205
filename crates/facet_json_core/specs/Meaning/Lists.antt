-- What a list reads, as what it is written, and what comes within a list.
use Rattle.std.specs.Prelude.{ℕ, List, [], ◌∷◌, Option, Some, None}
use Rattle.std.specs.Option.{option_map, option_and_then}
use Rattle.facet_json_grammar.specs.Node.{Node, scalar, array, object, Nodes, no_nodes, item}
use Rattle.facet_json_grammar.specs.Tree.{Tree, list, Trees, no_trees, tree}

-- ---- what is read

-- a value before the others, where all are there
abbrev pub put_value : {V : Type 0} → Option V → Option (List V) → Option (List V)
put_value first others = option_and_then (λ v. option_map (λ vs. v ∷ vs) others) first

-- the readings of all items, in order, where each has one
abbrev pub items_of : {V : Type 0} → (List ℕ → Node → Option V) → List ℕ → Nodes → Option (List V)
items_of reading buffer no_nodes = Some []
items_of reading buffer (item node nodes) = put_value (reading buffer node) (items_of reading buffer nodes)

-- An array is read as its items.
abbrev pub list_of : {V : Type 0} → (List ℕ → Node → Option V) → List ℕ → Node → Option (List V)
list_of reading buffer (scalar t) = None
list_of reading buffer (array first last nodes) = items_of reading buffer nodes
list_of reading buffer (object first last inside) = None

-- ---- what is written

abbrev pub trees_by : {V : Type 0} → (V → Tree) → List V → Trees
trees_by tree_by [] = no_trees
trees_by tree_by (v ∷ vs) = tree (tree_by v) (trees_by tree_by vs)

-- A list is written as the list of its items' trees.
abbrev pub list_by : {V : Type 0} → (V → Tree) → List V → Tree
list_by tree_by vs = list (trees_by tree_by vs)
