-- What the tokens of a buffer stand for, and the tree of a node (RFC 8259, sections 3 to 7).
use Rattle.std.specs.Prelude.{ℕ, true, false, List, Option, Some, None, slice_range}
use Rattle.std.specs.Option.{option_map, option_and_then}
use Rattle.std.specs.Fmt.{decimal, signed_decimal}
use Rattle.facet_format.specs.NumberValue.{Number}
use Rattle.facet_format.specs.NumberValue as numbers
use Rattle.facet_json_token.specs.Decoded.{decoded}
use Rattle.facet_json_token.specs.Token.{Kind, Token}
use Rattle.facet_json_token.specs.Token as token
use Rattle.facet_json_grammar.specs.Node.{Node, scalar, array, object, Nodes, no_nodes, item, Members, no_members, member}
use Rattle.facet_json_grammar.specs.Tree.{Tree, null, bool, i64, u64, text, list, pairs, Trees, no_trees, Pairs, no_pairs, pair}
use Rattle.facet_json_grammar.specs.Tree as trees

-- ---- what a token stands for

-- whole numbers past 64 bits are read as the text of their digits
abbrev pub tree_of_number : Number → Tree
tree_of_number (numbers.u64 n) = u64 n
tree_of_number (numbers.u128 n) = text (decimal n)
tree_of_number (numbers.i64 n) = i64 n
tree_of_number (numbers.i128 n) = text (signed_decimal n)
tree_of_number (numbers.decimal digits) = trees.decimal digits

abbrev pub meaning_of : List ℕ → Kind → Option Tree
meaning_of buffer token.null = Some null
meaning_of buffer token.true_literal = Some (bool true)
meaning_of buffer token.false_literal = Some (bool false)
meaning_of buffer (token.string start finish has_escapes) = option_map text (decoded (slice_range buffer start finish))
meaning_of buffer (token.number start finish hint) = option_map tree_of_number (numbers.number (slice_range buffer start finish) hint)
meaning_of buffer token.object_start = None
meaning_of buffer token.object_end = None
meaning_of buffer token.array_start = None
meaning_of buffer token.array_end = None
meaning_of buffer token.colon = None
meaning_of buffer token.comma = None

-- what a scalar's token of the buffer, also a key's, stands for, where it has a meaning
abbrev pub meaning : List ℕ → Token → Option Tree
meaning buffer t = meaning_of buffer t.kind

-- ---- the tree of a node

abbrev pub text_in_tree : Option Tree → Option (List ℕ)
text_in_tree (Some (text t)) = Some t
text_in_tree _ = None

abbrev pub put_item : Option Tree → Option Trees → Option Trees
put_item first others = option_and_then (λ t. option_map (trees.tree t) others) first

abbrev pub put_pair : Option (List ℕ) → Option Tree → Option Pairs → Option Pairs
put_pair key value others = option_and_then (λ k. option_and_then (λ t. option_map (pair k t) others) value) key

-- the tree of a node, where all its scalars and keys have a meaning
unfoldable mutual
  pub tree_of : List ℕ → Node → Option Tree
  tree_of buffer (scalar t) = meaning buffer t
  tree_of buffer (array first last nodes) = option_map list (trees_of buffer nodes)
  tree_of buffer (object first last members) = option_map pairs (pairs_of buffer members)

  pub trees_of : List ℕ → Nodes → Option Trees
  trees_of buffer no_nodes = Some no_trees
  trees_of buffer (item node nodes) = put_item (tree_of buffer node) (trees_of buffer nodes)

  pub pairs_of : List ℕ → Members → Option Pairs
  pairs_of buffer no_members = Some no_pairs
  pairs_of buffer (member key mark node members) = put_pair (text_in_tree (meaning buffer key)) (tree_of buffer node) (pairs_of buffer members)
