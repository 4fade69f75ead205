-- Values with the members of each object in the order of their names.
use Rattle.std.specs.Prelude.{ℕ, Bool, List, if◌then◌else◌}
use Rattle.std.specs.Cmp.Lexicographic.{slice_cmp}
use Rattle.std.specs.Ordering.{nat_cmp, is_lt}
use Rattle.facet_json_grammar.specs.Tree.{Tree, list, pairs, Trees, no_trees, tree, Pairs, no_pairs, pair}

-- A name is before another one byte by byte, as UTF-8 orders characters: "" before "a", "a" before "ab".
abbrev pub is_before : List ℕ → List ℕ → Bool
is_before name other = is_lt (slice_cmp nat_cmp name other)

-- one more member among members that are in order: after those whose names are before its own
abbrev pub put_member : List ℕ → Tree → Pairs → Pairs
put_member name value no_pairs = pair name value no_pairs
put_member name value (pair first old others) =
    if is_before first name then pair first old (put_member name value others) else pair name value (pair first old others)

-- the members in the order of their names; those of one name keep their order
abbrev pub in_order : Pairs → Pairs
in_order no_pairs = no_pairs
in_order (pair name value others) = put_member name value (in_order others)

abbrev mutual
  -- the value, with the members of each object in order, at any depth
  pub sorted : Tree → Tree
  sorted (list items) = list (items_sorted items)
  sorted (pairs members) = pairs (in_order (values_sorted members))
  sorted t = t

  pub items_sorted : Trees → Trees
  items_sorted no_trees = no_trees
  items_sorted (tree item others) = tree (sorted item) (items_sorted others)

  -- the members where they are, each value sorted
  pub values_sorted : Pairs → Pairs
  values_sorted no_pairs = no_pairs
  values_sorted (pair name value others) = pair name (sorted value) (values_sorted others)
