-- A document as a list of nodes, each of its values and keys one, in the order in which they stand: a container is followed by the nodes of what it
-- holds and by one for its end. A value is told by the nodes from its own on: which text it has, which value begins there, what it holds.
use Rattle.std.specs.Prelude.{ℕ, zero, suc, ◌+◌, Bool, true, false, List, [], ◌∷◌, ◌++◌, Option, Some, None, if◌then◌else◌, length, map, drop, slice_get, slice_range}
use Rattle.std.specs.Borrow.{Bor}
use Rattle.std.specs.Option.{unwrap_or, option_or, option_and_then}
use Rattle.facet_format.specs.Event.{Scalar, bytes_of}
use Rattle.facet_format.specs.Event as event
use Rattle.facet_format.specs.NumberValue.{Number}
use Rattle.facet_format.specs.NumberValue as numbers
use Rattle.facet_format.specs.Span.{Span, stop}
use Rattle.facet_format.specs.declared.event.ScalarValue.{ScalarValue}
use Rattle.facet_format.specs.Views.{scalar_value_of}
use Rattle.facet_json_token.specs.Token.{Token}
use Rattle.facet_json_core.specs.Told.{tree_of_scalar}
use Rattle.facet_json_grammar.specs.Meaning.{meaning, text_in_tree}
use Rattle.facet_json_grammar.specs.Node as grammar
use Rattle.facet_json_grammar.specs.Tree.{Tree, Trees, no_trees, tree, Pairs, no_pairs, pair}
use Rattle.facet_json_grammar.specs.Tree as trees
use Rattle.facet_json_tree.specs.Pointer.{index}
use Rattle.facet_json_tree.specs.Same.{same_bytes}
use Rattle.facet_json_document.specs.OwnNumber.{own_number}
use Rattle.facet_json_document.specs.QuotedText.{quoted}
use Rattle.facet_json_document.specs.declared.document.node.Node.{Node as RustNode}
use Rattle.facet_json_document.specs.declared.document.node.NodeKind.{NodeKind}
use Rattle.facet_json_document.specs.declared.document.node.NodeKind.TheVariants as rust
use Rattle.facet_json_document.specs.declared.document.node.Leaf.{Leaf as RustLeaf}
use Rattle.facet_json_document.specs.declared.document.node.Leaf.TheVariants as leaves
use Rattle.facet_json_document.specs.declared.document.node.ValueKind.{ValueKind}
use Rattle.facet_json_document.specs.declared.document.node.ValueKind.TheVariants as kind
use Rattle.facet_json_document.specs.declared.document.value.Value.{Value}
use Rattle.facet_json_document.specs.declared.document.held.Items.{Items}
use Rattle.facet_json_document.specs.declared.document.held.Members.{Members}
use Rattle.facet_json_document.specs.declared.document.Document.{Document}

pub data Node : Type 0 where
  -- a value that holds no others, with its text
  leaf : (text : List ℕ) → Tree → Node
  key : List ℕ → Node
  -- with the text, and with the number of nodes up to its end, that of the end with them
  list : (text : List ℕ) → (inner : ℕ) → Node
  object : (text : List ℕ) → (inner : ℕ) → Node
  closing : Node

-- how many nodes after this one belong to it
abbrev pub inner_len : Node → ℕ
inner_len (list text n) = n
inner_len (object text n) = n
inner_len _ = 0

abbrev pub is_closing_node : Node → Bool
is_closing_node closing = true
is_closing_node _ = false

abbrev pub is_leaf : Node → Bool
is_leaf (leaf text t) = true
is_leaf _ = false

-- the name of a member, whose value follows
abbrev pub is_key : Node → Bool
is_key (key name) = true
is_key _ = false

-- what holds others
abbrev pub is_list : Node → Bool
is_list (list text n) = true
is_list _ = false

abbrev pub is_object : Node → Bool
is_object (object text n) = true
is_object _ = false

-- ---- the nodes of a document (RFC 8259, sections 2 to 5)

-- what stands for a value where none begins, as at a key or an end
abbrev pub nothing : Tree
nothing = trees.bytes []

-- the bytes of a span
abbrev pub text_at : List ℕ → Span → List ℕ
text_at input s = slice_range input s.offset (stop s)

-- the bytes from the first to the last of two brackets
abbrev pub text_between : List ℕ → Token → Token → List ℕ
text_between input first last = slice_range input first.span.offset (stop last.span)

unfoldable mutual
  pub as_nodes : List ℕ → grammar.Node → List Node
  as_nodes input (grammar.scalar t) = leaf (text_at input t.span) (unwrap_or (meaning input t) nothing) ∷ []
  as_nodes input (grammar.array first last held) =
      list (text_between input first last) (length (items_as_nodes input held) + 1) ∷ items_as_nodes input held ++ closing ∷ []
  as_nodes input (grammar.object first last held) =
      object (text_between input first last) (length (members_as_nodes input held) + 1) ∷ members_as_nodes input held ++ closing ∷ []

  pub items_as_nodes : List ℕ → grammar.Nodes → List Node
  items_as_nodes input grammar.no_nodes = []
  items_as_nodes input (grammar.item node others) = as_nodes input node ++ items_as_nodes input others

  pub members_as_nodes : List ℕ → grammar.Members → List Node
  members_as_nodes input grammar.no_members = []
  members_as_nodes input (grammar.member name colon node others) =
      key (unwrap_or (text_in_tree (meaning input name)) []) ∷ as_nodes input node ++ members_as_nodes input others

-- ---- what nodes tell, from that of a value on

-- the text of the value: its bytes in the input
abbrev pub raw_text : List Node → List ℕ
raw_text (leaf text t ∷ later) = text
raw_text (list text n ∷ later) = text
raw_text (object text n ∷ later) = text
raw_text _ = []

-- each item's nodes, of nodes behind a list's; the next so many belong to the item before
abbrev pub items : ℕ → List Node → List (List Node)
items n [] = []
items (suc n) (x ∷ xs) = items n xs
items zero (closing ∷ xs) = []
items zero (x ∷ xs) = (x ∷ xs) ∷ items (inner_len x) xs

-- each member's name and its value's nodes, of those behind an object's, likewise
abbrev pub members : ℕ → List Node → List (List ℕ × List Node)
members n [] = []
members (suc n) (x ∷ xs) = members n xs
members zero (key name ∷ []) = []
members zero (key name ∷ (x ∷ xs)) = (name, x ∷ xs) ∷ members (inner_len x) xs
members zero (_ ∷ xs) = []

-- by its name: of those with one name the last counts
abbrev pub last_named : List ℕ → List (List ℕ × List Node) → Option (List Node)
last_named name [] = None
last_named name (m ∷ others) = option_or (last_named name others) (if same_bytes m.0 name then Some m.1 else None)

-- a list's items and an object's members; other values have none
abbrev pub list_items : List Node → Option (List (List Node))
list_items (list text n ∷ later) = Some (items 0 later)
list_items _ = None

abbrev pub object_members : List Node → Option (List (List ℕ × List Node))
object_members (object text n ∷ later) = Some (members 0 later)
object_members _ = None

abbrev pub item_nodes : ℕ → List Node → Option (List Node)
item_nodes i nodes = option_and_then (λ held. slice_get held i) (list_items nodes)

abbrev pub member_nodes : List ℕ → List Node → Option (List Node)
member_nodes name nodes = option_and_then (last_named name) (object_members nodes)

-- what a name of a pointer names directly within the value (RFC 6901, section 4)
abbrev pub child_nodes : List ℕ → List Node → Option (List Node)
child_nodes name (object text n ∷ later) = last_named name (members 0 later)
child_nodes name (list text n ∷ later) = option_and_then (slice_get (items 0 later)) (index name)
child_nodes name _ = None

-- what names name, one after the other
abbrev pub named_nodes : List (List ℕ) → List Node → Option (List Node)
named_nodes [] nodes = Some nodes
named_nodes (name ∷ names) nodes = option_and_then (named_nodes names) (child_nodes name nodes)

-- ---- the value that begins at nodes

-- the trees of a list's items, of nodes behind the list's, each with the value that begins there
abbrev pub item_trees : ℕ → List (Node × Tree) → Trees
item_trees n [] = no_trees
item_trees (suc n) (x ∷ xs) = item_trees n xs
item_trees zero ((closing, t) ∷ xs) = no_trees
item_trees zero ((n, t) ∷ xs) = tree t (item_trees (inner_len n) xs)

-- those of an object's members, likewise
abbrev pub member_trees : ℕ → List (Node × Tree) → Pairs
member_trees n [] = no_pairs
member_trees (suc n) (x ∷ xs) = member_trees n xs
member_trees zero ((key name, t) ∷ []) = no_pairs
member_trees zero ((key name, t) ∷ (x ∷ xs)) = pair name x.1 (member_trees (inner_len x.0) xs)
member_trees zero (_ ∷ xs) = no_pairs

abbrev pub value_beginning : Node → List (Node × Tree) → Tree
value_beginning (leaf text t) later = t
value_beginning (list text n) later = trees.list (item_trees 0 later)
value_beginning (object text n) later = trees.pairs (member_trees 0 later)
value_beginning _ later = nothing

unfoldable pub values : List Node → List (Node × Tree)
values [] = []
values (n ∷ nodes) = (n, value_beginning n (values nodes)) ∷ values nodes

abbrev pub first_value : List Node → Tree
first_value [] = nothing
first_value (n ∷ nodes) = value_beginning n (values nodes)

-- ---- what they are

-- what a value is in JSON (RFC 8259, section 3); none of a document is any other than these
abbrev pub value_kind : Tree → ValueKind
value_kind (trees.bool b) = kind.Bool
value_kind (trees.i64 n) = kind.Number
value_kind (trees.u64 n) = kind.Number
value_kind (trees.i128 n) = kind.Number
value_kind (trees.u128 n) = kind.Number
value_kind (trees.decimal digits) = kind.Number
value_kind (trees.char c) = kind.Text
value_kind (trees.text t) = kind.Text
value_kind (trees.list ts) = kind.List
value_kind (trees.pairs ps) = kind.Object
value_kind _ = kind.Null

-- ---- how many, and which

abbrev pub trees_len : Trees → ℕ
trees_len no_trees = 0
trees_len (tree t ts) = suc (trees_len ts)

abbrev pub pairs_len : Pairs → ℕ
pairs_len no_pairs = 0
pairs_len (pair name t ps) = suc (pairs_len ps)

-- one after another
abbrev pub trees_list : Trees → List Tree
trees_list no_trees = []
trees_list (tree t ts) = t ∷ trees_list ts

abbrev pub pairs_list : Pairs → List (List ℕ × Tree)
pairs_list no_pairs = []
pairs_list (pair name t ps) = (name, t) ∷ pairs_list ps

-- how many items or members a list or an object has
abbrev pub len : Tree → Option ℕ
len (trees.list ts) = Some (trees_len ts)
len (trees.pairs ps) = Some (pairs_len ps)
len _ = None

-- ---- what the types of the code stand for

-- a number that a document has as a number; others are none
abbrev pub small_number : Number → Tree
small_number (numbers.u64 n) = trees.u64 n
small_number (numbers.i64 n) = trees.i64 n
small_number (numbers.decimal digits) = trees.decimal digits
small_number _ = nothing

abbrev pub small_if_any : Option Number → Tree
small_if_any None = nothing
small_if_any (Some n) = small_number n

-- the number that bytes are
abbrev pub number_tree : List ℕ → Tree
number_tree bytes = small_if_any (own_number bytes)

-- a value that no node tells by its bytes
abbrev pub held_leaf : Option ScalarValue → Tree
held_leaf None = nothing
held_leaf (Some s) = unwrap_or (tree_of_scalar (scalar_value_of s)) nothing

abbrev pub text_held : Scalar → List ℕ
text_held (event.text t) = bytes_of t
text_held _ = []

-- a name that no node tells by its bytes
abbrev pub held_name : Option ScalarValue → List ℕ
held_name None = []
held_name (Some s) = text_held (scalar_value_of s)

-- a node of that kind with these bytes, beside what no node tells by its bytes; a text and a key have a quote on either side
abbrev pub node_of : NodeKind → List ScalarValue → ℕ → List ℕ → Node
node_of rust.Null held more text = leaf text trees.null
node_of rust.True held more text = leaf text (trees.bool true)
node_of rust.False held more text = leaf text (trees.bool false)
node_of rust.Number held more text = leaf text (number_tree text)
node_of rust.Text held more text = leaf text (trees.text (quoted text))
node_of rust.Held held at text = leaf text (held_leaf (slice_get held at))
node_of rust.Key held more text = key (quoted text)
node_of rust.HeldKey held at text = key (held_name (slice_get held at))
node_of rust.List held more text = list text more
node_of rust.Object held more text = object text more
node_of rust.End held more text = closing

abbrev pub node_view : List ScalarValue → RustNode → Node
node_view held n = node_of n.kind held n.more n.text.now

-- a value that holds no others
abbrev pub leaf_view : RustLeaf → Tree
leaf_view leaves.Null = trees.null
leaf_view (leaves.Bool b) = trees.bool b
leaf_view (leaves.I64 n) = trees.i64 n
leaf_view (leaves.U64 n) = trees.u64 n
leaf_view (leaves.Decimal d) = trees.decimal (bytes_of d)
leaf_view (leaves.Text t) = trees.text t.now
leaf_view leaves.Other = nothing

abbrev pub nodes_view : List ScalarValue → List RustNode → List Node
nodes_view held nodes = map (node_view held) nodes

-- the nodes of a document, and its value
abbrev pub document_nodes : Document → List Node
document_nodes d = nodes_view d.held.items d.nodes.items

abbrev pub document_view : Document → Tree
document_view d = first_value (document_nodes d)

-- the nodes from a value's on, and the value
abbrev pub nodes_from : Value → List Node
nodes_from v = drop v.index (document_nodes v.document.now)

abbrev pub value_view : Value → Tree
value_view v = first_value (nodes_from v)

-- those that are still to come
abbrev pub item_nodes_left : Items → List (List Node)
item_nodes_left i = items 0 (drop i.at (document_nodes i.document.now))

abbrev pub items_left : Items → List Tree
items_left i = map first_value (item_nodes_left i)

abbrev pub member_nodes_left : Members → List (List ℕ × List Node)
member_nodes_left m = members 0 (drop m.at (document_nodes m.document.now))

abbrev pub member_value : List ℕ × List Node → List ℕ × Tree
member_value m = (m.0, first_value m.1)

abbrev pub members_left : Members → List (List ℕ × Tree)
members_left m = map member_value (member_nodes_left m)

abbrev pub member_from : Bor (List ℕ) × Value → List ℕ × List Node
member_from m = (m.0.now, nodes_from m.1)
