-- Whether two values are the same.
use Rattle.std.specs.Prelude.{ℕ, Bool, true, false, ◌==◌, ◌&&◌, List, nat_eq}
use Rattle.std.specs.Bool.{beq}
use Rattle.std.specs.Cmp.Lexicographic.{pointwise}
use Rattle.std.specs.Ordering.{int_eq}
use Rattle.facet_json_grammar.specs.Tree.{Tree, null, unit, bool, char, i64, u64, i128, u128, decimal, text, bytes, raw, list, pairs, Trees, no_trees, tree, Pairs, no_pairs, pair}

abbrev pub same_bytes : List ℕ → List ℕ → Bool
same_bytes = pointwise nat_eq

unfoldable mutual
  -- the same variant with the same content
  pub same_tree : Tree → Tree → Bool
  same_tree null null = true
  same_tree unit unit = true
  same_tree (bool a) (bool b) = beq a b
  same_tree (char a) (char b) = a == b
  same_tree (i64 a) (i64 b) = int_eq a b
  same_tree (u64 a) (u64 b) = a == b
  same_tree (i128 a) (i128 b) = int_eq a b
  same_tree (u128 a) (u128 b) = a == b
  same_tree (decimal a) (decimal b) = same_bytes a b
  same_tree (text a) (text b) = same_bytes a b
  same_tree (bytes a) (bytes b) = same_bytes a b
  same_tree (raw a) (raw b) = same_bytes a b
  same_tree (list a) (list b) = same_trees a b
  same_tree (pairs a) (pairs b) = same_pairs a b
  same_tree _ _ = false

  -- the same items in the same order
  pub same_trees : Trees → Trees → Bool
  same_trees no_trees no_trees = true
  same_trees (tree a more) (tree b others) = same_tree a b && same_trees more others
  same_trees _ _ = false

  -- the same keys and values in the same order
  pub same_pairs : Pairs → Pairs → Bool
  same_pairs no_pairs no_pairs = true
  same_pairs (pair key a more) (pair name b others) = same_bytes key name && same_tree a b && same_pairs more others
  same_pairs _ _ = false
