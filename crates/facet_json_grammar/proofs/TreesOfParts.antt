-- A list or an object with a meaning: so have its items, its keys and its values.
use Rattle.std.specs.Prelude.{ℕ, List}
use Rattle.std.proofs.Common.{◌≡◌, ℕ, List, Option, Some, None, refl}
use Rattle.std.specs.Option.{option_map}
use Rattle.facet_json_token.specs.Token.{Token}
use Rattle.facet_json_grammar.specs.Node.{Node, Nodes, item, Members, member}
use Rattle.facet_json_grammar.specs.Tree.{Tree, Trees, Pairs}
use Rattle.facet_json_grammar.specs.Tree as tree
use Rattle.facet_json_grammar.specs.Meaning.{tree_of, trees_of, pairs_of, text_in_tree, put_item, put_pair, meaning}

-- the first item's tree and the others'
put_item_meant : (a : Option Tree) (b : Option Trees) (all : Trees) → put_item a b ≡ Some all →
    (value : Tree) × (values : Trees) × (a ≡ Some value) × (b ≡ Some values)
put_item_meant None b all e = cc
put_item_meant (Some t) None all e = cc
put_item_meant (Some t) (Some others) all e = (t, others, refl, refl)

-- the first member's key and tree and the others'
put_pair_meant : (k : Option (List ℕ)) (a : Option Tree) (b : Option Pairs) (all : Pairs) → put_pair k a b ≡ Some all →
    (name : List ℕ) × (value : Tree) × (values : Pairs) × (k ≡ Some name) × (a ≡ Some value) × (b ≡ Some values)
put_pair_meant None a b all e = cc
put_pair_meant (Some name) None b all e = cc
put_pair_meant (Some name) (Some t) None all e = cc
put_pair_meant (Some name) (Some t) (Some others) all e = (name, t, others, refl, refl, refl)

-- Items of a list with a meaning.
pub list_meant : (o : Option Trees) (value : Tree) → option_map tree.list o ≡ Some value → (values : Trees) × (o ≡ Some values)
list_meant None value e = cc
list_meant (Some values) value e = (values, refl)

-- Members of an object with a meaning.
pub object_meant : (o : Option Pairs) (value : Tree) → option_map tree.pairs o ≡ Some value → (values : Pairs) × (o ≡ Some values)
object_meant None value e = cc
object_meant (Some values) value e = (values, refl)

-- Items with a meaning: the first, and the others.
pub item_meant : (buffer : List ℕ) (node : Node) (nodes : Nodes) (all : Trees) → trees_of buffer (item node nodes) ≡ Some all →
    (value : Tree) × (values : Trees) × (tree_of buffer node ≡ Some value) × (trees_of buffer nodes ≡ Some values)
unfolding trees_of
item_meant buffer node nodes all e = put_item_meant (tree_of buffer node) (trees_of buffer nodes) all e

-- Members with a meaning: the key's name, the value, and the others.
pub member_meant : (buffer : List ℕ) (key mark : Token) (node : Node) (members : Members) (all : Pairs) →
    pairs_of buffer (member key mark node members) ≡ Some all →
    (name : List ℕ) × (value : Tree) × (values : Pairs) × (text_in_tree (meaning buffer key) ≡ Some name) × (tree_of buffer node ≡ Some value) × (pairs_of buffer members ≡ Some values)
unfolding pairs_of
member_meant buffer key mark node members all e = put_pair_meant (text_in_tree (meaning buffer key)) (tree_of buffer node) (pairs_of buffer members) all e
