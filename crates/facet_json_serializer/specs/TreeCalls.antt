-- The calls by which a tree is written, and what a list of calls leaves.
use Rattle.std.specs.Prelude.{◌≡◌, List, [], ◌∷◌, ◌++◌, length, Option, Some, Result, Ok, Err}
use Rattle.facet_format.specs.Event.{borrowed}
use Rattle.facet_format.specs.Event as event
use Rattle.facet_json_grammar.specs.Text.{text}
use Rattle.facet_json_grammar.specs.Tree.{Tree, null, unit, bool, char, i64, u64, i128, u128, decimal, bytes, raw, list, pairs, Trees, no_trees, tree, Pairs, no_pairs, pair}
use Rattle.facet_json_grammar.specs.Tree as trees
use Rattle.facet_format.specs.SerializerCall.{SerializerCall, begin_struct, field_key, end_struct, begin_seq, end_seq, scalar, raw_scalar, TakesAll}
use Rattle.facet_json_serializer.specs.Serializer.{Writing, Addition, Misfit, addition, appended, before_value, after_written, Takes}

-- what follows an addition, if there is one
abbrev pub and_then : Result Addition Misfit → (Addition → Result Writing Misfit) → Result Writing Misfit
and_then (Ok a) next = next a
and_then (Err why) next = Err why

-- what is left after calls, with ample memory, or how the first that is refused doesn't fit
unfoldable pub after_calls : Writing → List SerializerCall → Result Writing Misfit
after_calls w [] = Ok w
after_calls w (call ∷ others) = and_then (addition w.options w.stack call) (λ a. after_calls (appended w a) others)

unfoldable mutual
  pub tree_calls : Tree → List SerializerCall
  tree_calls null = scalar event.null ∷ []
  tree_calls unit = scalar event.unit ∷ []
  tree_calls (bool b) = scalar (event.bool b) ∷ []
  tree_calls (char c) = scalar (event.char c) ∷ []
  tree_calls (i64 n) = scalar (event.i64 n) ∷ []
  tree_calls (u64 n) = scalar (event.u64 n) ∷ []
  tree_calls (i128 n) = scalar (event.i128 n) ∷ []
  tree_calls (u128 n) = scalar (event.u128 n) ∷ []
  tree_calls (decimal t) = scalar (event.decimal (borrowed t)) ∷ []
  tree_calls (trees.text t) = scalar (event.text (borrowed t)) ∷ []
  tree_calls (bytes b) = scalar (event.bytes b) ∷ []
  tree_calls (raw t) = raw_scalar t ∷ []
  tree_calls (list items) = begin_seq ∷ (item_calls items ++ end_seq ∷ [])
  tree_calls (pairs members) = begin_struct ∷ (member_calls members ++ end_struct ∷ [])

  pub item_calls : Trees → List SerializerCall
  item_calls no_trees = []
  item_calls (tree t others) = tree_calls t ++ item_calls others

  pub member_calls : Pairs → List SerializerCall
  member_calls no_pairs = []
  member_calls (pair key value others) = field_key key ∷ (tree_calls value ++ member_calls others)

-- with a tree's text, where a value stands
abbrev pub with_tree : Writing → Tree → Writing
with_tree w t = record {
  options = w.options;
  stack = after_written w.stack;
  written = w.written ++ (before_value w.options w.stack ++ text w.options (length w.stack) t);
}

-- A tree's calls append its text, at the depth that is open.
abbrev pub TreeByCalls : Type 0
TreeByCalls = (w : Writing) (t : Tree) → after_calls w (tree_calls t) ≡ Ok (with_tree w t)

-- Calls that are taken one after the other leave what they append.
abbrev pub TakenInOrder : Type 0
TakenInOrder = (w : Writing) (calls : List SerializerCall) (end : Option Writing) → TakesAll Takes (Some w) calls end
    → (left : Writing) × (after_calls w calls ≡ Ok left) × (end ≡ Some left)

-- Where a tree's calls are taken, its text is appended.
abbrev pub TreeTaken : Type 0
TreeTaken = (w : Writing) (t : Tree) (end : Option Writing) → TakesAll Takes (Some w) (tree_calls t) end → end ≡ Some (with_tree w t)
