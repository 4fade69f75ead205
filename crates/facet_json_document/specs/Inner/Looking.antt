-- Looking into a value of a document: the nodes that stand there.
use Rattle.std.specs.Prelude.{◌≡◌, ◌<◌, ◌≤◌, ℕ, suc, false, List, [], ◌∷◌, length, drop, Option, MatchOption}
use Rattle.std.specs.Borrow.{Bor}
use Rattle.facet_json_grammar.specs.Tree.{Tree, list, pairs, Trees, no_trees, tree, Pairs, no_pairs, pair}
use Rattle.facet_json_document.specs.Nodes.{Node, leaf, nothing, is_leaf, items, members, leaf_view, node_view, document_nodes, first_value}
use Rattle.facet_json_document.specs.declared.document.Document.{Document}
use Rattle.facet_json_document.specs.declared.document.node.Leaf.{Leaf as RustLeaf}
use Rattle.facet_json_document.specs.declared.document.node.Node.{Node as RustNode}
use Rattle.facet_json_document.specs.declared.document.value.Value.{Value}

-- a value that may hold others, or stands for none
pub data HoldsOthers : Tree → Type 0 where
  of_nothing : HoldsOthers nothing
  of_list : (ts : Trees) → HoldsOthers (list ts)
  of_object : (ps : Pairs) → HoldsOthers (pairs ps)

-- the answer is the value that holds no others, where it is one
abbrev pub IsLeaf : Tree → Option RustLeaf → Type 0
IsLeaf t answer = MatchOption answer (HoldsOthers t) (λ l. t ≡ leaf_view l)

-- a value of a node that holds no others
abbrev pub HasLeaf : Node → Tree → Type 0
HasLeaf (leaf text t) value = t ≡ value
HasLeaf _ value = ⊥

-- the answer is the value of a node that holds no others, where it is one
abbrev pub TellsLeaf : Node → Option RustLeaf → Type 0
TellsLeaf n answer = MatchOption answer (is_leaf n ≡ false) (λ l. HasLeaf n (leaf_view l))

-- how many nodes the document has
abbrev pub many : Value → ℕ
many v = length v.document.now.nodes.items

-- the nodes from this index on
abbrev pub from : Value → ℕ → List Node
from v at = drop at (document_nodes v.document.now)

-- a node of a document
abbrev pub seen_in : Document → RustNode → Node
seen_in d n = node_view d.held.items n

abbrev pub seen : Value → RustNode → Node
seen v n = seen_in v.document.now n

-- the trees of items, of an object's members
abbrev pub trees_from : List (List Node) → Trees
trees_from [] = no_trees
trees_from (x ∷ xs) = tree (first_value x) (trees_from xs)

abbrev pub pairs_from : List (List ℕ × List Node) → Pairs
pairs_from [] = no_pairs
pairs_from (m ∷ ms) = pair m.0 (first_value m.1) (pairs_from ms)

-- those of the items and members that stand from this index on
abbrev pub trees_at : Value → ℕ → Trees
trees_at v at = trees_from (items 0 (from v at))

abbrev pub pairs_at : Value → ℕ → Pairs
pairs_at v at = pairs_from (members 0 (from v at))

-- This node stands there.
pub record NodeStands (v : Value) (at : ℕ) (n : Node) : Type 0 where
  pub within : at < many v
  pub here : from v at ≡ n ∷ from v (suc at)

-- the answer is the node that stands there, where one does
abbrev pub IsNodeAt : Value → ℕ → Option (Bor RustNode) → Type 0
IsNodeAt v at answer = MatchOption answer (from v at ≡ []) (λ n. NodeStands v at (seen v n.now))

-- An item stands there, and those behind it begin further on.
pub record IsItem (v : Value) (at : ℕ) (next : ℕ) : Type 0 where
  pub are : items 0 (from v at) ≡ from v at ∷ items 0 (from v next)
  pub further : at < next
  pub within : next ≤ many v

-- the answer is where the items behind the one that stands there begin, where one does
abbrev pub IsNextItem : Value → ℕ → Option ℕ → Type 0
IsNextItem v at answer = MatchOption answer (items 0 (from v at) ≡ []) (λ next. IsItem v at next)

-- A member with this name stands there, and those behind it begin further on.
pub record MemberStands (v : Value) (at : ℕ) (name : List ℕ) (next : ℕ) : Type 0 where
  pub are : members 0 (from v at) ≡ (name, from v (suc at)) ∷ members 0 (from v next)
  pub further : at < next
  pub within : next ≤ many v

-- the answer is the name of the member that stands there, and where the others begin
abbrev pub IsMemberAt : Value → ℕ → Option (Bor (List ℕ) × ℕ) → Type 0
IsMemberAt v at answer = MatchOption answer (members 0 (from v at) ≡ []) (λ m. MemberStands v at m.0.now m.1)
