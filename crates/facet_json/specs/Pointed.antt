-- What a JSON pointer (RFC 6901) names within a node, and what a search by one passes.
use Rattle.std.specs.Prelude.{◌≡◌, ℕ, zero, suc, Bool, List, [], ◌∷◌, ◌++◌, drop, Option, Some, None, MatchBool, option_and_then}
use Rattle.facet_format.specs.Complaint.{Refusal}
use Rattle.facet_format.specs.Cursor.{Cursor, Spot}
use Rattle.facet_format.specs.Event.{Passed}
use Rattle.facet_format.specs.Kept.{found}
use Rattle.facet_format.specs.Part.{Source}
use Rattle.facet_json_grammar.specs.Node.{Node, scalar, array, object, Nodes, no_nodes, item, Members, no_members, member}
use Rattle.facet_json_grammar.specs.Now.{Now}
use Rattle.facet_json_grammar.specs.Walk.{walk}
use Rattle.facet_json_core.specs.Reading.{LacksMemory}
use Rattle.facet_json_core.specs.Meaning.Nodes.{StandsBefore, StandsAfter}
use Rattle.facet_json_tree.specs.Pointer.{IsPointer, index}
use Rattle.facet_json_core.specs.Finding.{from_key}

-- ---- what a pointer names

-- the value of the first one of the members
abbrev pub first_value : Members → Option Node
first_value no_members = None
first_value (member key mark value rest) = Some value

-- the item at this index, the first at 0
abbrev pub item_node : ℕ → Nodes → Option Node
item_node i no_nodes = None
item_node zero (item node nodes) = Some node
item_node (suc i) (item node nodes) = item_node i nodes

-- what a name names directly within a node: the value of the first member with this key, or an item by its index (section 4)
abbrev pub child_node : List ℕ → List ℕ → Node → Option Node
child_node name buffer (scalar t) = None
child_node name buffer (array first last nodes) = option_and_then (λ i. item_node i nodes) (index name)
child_node name buffer (object first last members) = first_value (from_key name buffer members)

-- what the names name, one after the other: without any, the node itself (section 4)
abbrev pub node_named : List (List ℕ) → List ℕ → Node → Option Node
node_named [] buffer node = Some node
node_named (name ∷ names) buffer node = option_and_then (node_named names buffer) (child_node name buffer node)

-- ---- on a walk

-- The points of the one cursor are those of the other one, too.
abbrev pub KeepsPoints : Cursor ℕ → Cursor ℕ → Type 0
KeepsPoints c d = (point : ℕ) (spot : Spot ℕ) → found point c.kept ≡ Some spot → found point d.kept ≡ Some spot

-- There is such a node, and the parser stands right before it. The cursor's points are kept.
pub record StandsBeforeIt (wanted : Option Node) (now : Now) (w : Source) (c : Cursor ℕ) : Type 0 where
  pub node : Node
  pub is : wanted ≡ Some node
  pub cursor : Cursor ℕ
  pub before : StandsBefore now w cursor node
  pub kept : KeepsPoints c cursor

-- The names name nothing within the node: those before one of them name a node in which that one names nothing. The parser stands right after
-- that node, and the cursor's points are kept.
pub record StandsPast (names : List (List ℕ)) (now : Now) (w : Source) (c : Cursor ℕ) (node : Node) : Type 0 where
  pub none : node_named names w.bytes node ≡ None
  pub reached : List (List ℕ)
  pub name : List ℕ
  pub others : List (List ℕ)
  pub are : names ≡ reached ++ name ∷ others
  pub inner : Node
  pub is : node_named reached w.bytes node ≡ Some inner
  pub lacks : child_node name w.bytes inner ≡ None
  pub cursor : Cursor ℕ
  pub rest : List Passed
  pub comes : drop cursor.spot.place w.events ≡ walk w.bytes inner ++ rest
  pub after : StandsAfter now w cursor inner
  pub kept : KeepsPoints c cursor

-- Before whatever node the parser stood, the names name a node within it, which comes next, or nothing, and the parser passed the node in which
-- one of them names nothing.
abbrev pub FindsNamed : List (List ℕ) → Now → Bool → Now → Type 0
FindsNamed names old is new = (w : Source) (c : Cursor ℕ) (node : Node) → StandsBefore old w c node →
    MatchBool is (StandsBeforeIt (node_named names w.bytes node) new w c) (StandsPast names new w c node)

-- The text is a pointer, and this was found by its names, however it is taken apart.
pub record FindsPointed (text : List ℕ) (old : Now) (is : Bool) (new : Now) : Type 0 where
  pub names : List (List ℕ)
  pub pointer : IsPointer text names
  pub finds : (read : List (List ℕ)) → IsPointer text read → FindsNamed read old is new

-- Before whatever node the parser stood, memory ran out.
abbrev pub LacksNode : Now → Refusal → Type 0
LacksNode old refusal = (w : Source) (c : Cursor ℕ) (node : Node) → StandsBefore old w c node → LacksMemory refusal

-- The text is a pointer, and before whatever node the parser stood, memory ran out.
pub record LacksPointed (text : List ℕ) (old : Now) (refusal : Refusal) : Type 0 where
  pub names : List (List ℕ)
  pub pointer : IsPointer text names
  pub lacks : LacksNode old refusal
