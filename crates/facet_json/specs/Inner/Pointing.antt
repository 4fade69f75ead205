-- One token of a pointer: what it names directly within a node.
use Rattle.std.specs.Prelude.{◌≡◌, ℕ, zero, suc, Bool, List, ◌==◌, false, Option, Some, None, MatchBool, option_and_then}
use Rattle.facet_format.specs.Complaint.{Refusal}
use Rattle.facet_format.specs.Cursor.{Cursor}
use Rattle.facet_format.specs.Event.{EventKind, struct_start, sequence_start, scalar}
use Rattle.facet_format.specs.Part.{Source}
use Rattle.facet_json_grammar.specs.Node.{Node, Nodes}
use Rattle.facet_json_grammar.specs.Now.{Now}
use Rattle.facet_json_core.specs.Reading.{LacksMemory}
use Rattle.facet_json_core.specs.Meaning.Nodes.{StandsBefore, StandsAfter}
use Rattle.facet_json_core.proofs.Meaning.Sequences.ListSteps.{AtItems}
use Rattle.facet_json.specs.Pointed.{item_node, child_node, StandsBeforeIt}
use Rattle.facet_json.specs.declared.pointer.Begun.{Begun}
use Rattle.facet_json.specs.declared.pointer.Begun.TheVariants as begun

-- what begins with such an event, or no value
abbrev pub begun_by : EventKind → Option Begun
begun_by (struct_start kind) = Some begun.Object
begun_by (sequence_start kind) = Some begun.List
begun_by (scalar value) = Some begun.Scalar
begun_by _ = None

-- There is such a node, which comes next, or there is none, and the parser stands after the other one.
abbrev pub FindsIt : Option Node → Bool → Now → Source → Cursor ℕ → Node → Type 0
FindsIt wanted is new w c node = MatchBool is (StandsBeforeIt wanted new w c) ((wanted ≡ None) × StandsAfter new w c node)

-- Before whatever node the parser stood: the same of what the name names directly within it.
abbrev pub FindsChild : List ℕ → Now → Bool → Now → Type 0
FindsChild name old is new = (w : Source) (c : Cursor ℕ) (node : Node) → StandsBefore old w c node →
    FindsIt (child_node name w.bytes node) is new w c node

-- Before whatever items of an array the parser stood: the same of the item at this index among them, where there is an index.
abbrev pub FindsItem : Option ℕ → Now → Bool → Now → Type 0
FindsItem wanted old is new = (w : Source) (c : Cursor ℕ) (node : Node) (nodes : Nodes) → AtItems old w c node nodes →
    FindsIt (option_and_then (λ i. item_node i nodes) wanted) is new w c node

-- Before whatever items of an array the parser stood, memory ran out.
abbrev pub LacksItems : Now → Refusal → Type 0
LacksItems old refusal = (w : Source) (c : Cursor ℕ) (node : Node) (nodes : Nodes) → AtItems old w c node nodes → LacksMemory refusal

-- one less, where it is not 0
abbrev pub less_one : ℕ → Option ℕ
less_one zero = None
less_one (suc n) = Some n

-- whether it is there, and 0
abbrev pub zero_is : Option ℕ → Bool
zero_is None = false
zero_is (Some n) = n == 0
