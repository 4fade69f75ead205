-- What the types of the code stand for in the definitions. The one file of the definitions that names types of the code.
use Rattle.std.specs.Prelude.{List, [], ◌∷◌, map, string_bytes}
use Rattle.std.specs.declared.string.String.{String}
use Rattle.std.specs.declared.alloc.Global.{Global}
use Rattle.facet_json_tree.specs.declared.tree.Tree.{Tree as RustTree, fold-Tree}
use Rattle.facet_json_tree.specs.declared.tree.Tree.TheOpen.{Tree-F}
use Rattle.facet_json_grammar.specs.Tree.{Tree, Trees, no_trees, Pairs, no_pairs}
use Rattle.facet_json_grammar.specs.Tree as tree

abbrev pub trees_of : List Tree → Trees
trees_of [] = no_trees
trees_of (t ∷ ts) = tree.tree t (trees_of ts)

abbrev pub pairs_of : List (String Global × Tree) → Pairs
pairs_of [] = no_pairs
pairs_of (p ∷ ps) = tree.pair (string_bytes p.0) p.1 (pairs_of ps)

-- one level, with each tree inside already seen
abbrev pub tree_step : Tree-F Tree → Tree
tree_step Tree-F.Null = tree.null
tree_step Tree-F.Unit = tree.unit
tree_step (Tree-F.Bool b) = tree.bool b
tree_step (Tree-F.Char c) = tree.char c
tree_step (Tree-F.I64 n) = tree.i64 n
tree_step (Tree-F.U64 n) = tree.u64 n
tree_step (Tree-F.I128 n) = tree.i128 n
tree_step (Tree-F.U128 n) = tree.u128 n
tree_step (Tree-F.Decimal digits) = tree.decimal digits
tree_step (Tree-F.Text t) = tree.text (string_bytes t)
tree_step (Tree-F.Bytes v) = tree.bytes v.items
tree_step (Tree-F.Raw t) = tree.raw (string_bytes t)
tree_step (Tree-F.List v) = tree.list (trees_of v.items)
tree_step (Tree-F.Pairs v) = tree.pairs (pairs_of v.items)

abbrev pub tree_view : RustTree → Tree
tree_view = fold-Tree Tree tree_step

abbrev pub trees_view : List RustTree → Trees
trees_view ts = trees_of (map tree_view ts)

abbrev pub pairs_view : List (String Global × RustTree) → Pairs
pairs_view ps = pairs_of (map (λ p. (p.0, tree_view p.1)) ps)
