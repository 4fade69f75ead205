-- What it means that a type is read from a node.
use Rattle.std.specs.Prelude.{◌≡◌, ◌⊎◌, ℕ, List, Option, Some, None}
use Rattle.facet_format.specs.Complaint.{Refusal}
use Rattle.facet_format.specs.Cursor.{Cursor}
use Rattle.facet_format.specs.Part.{Source}
use Rattle.facet_json_token.specs.Gap.{Mode, plain}
use Rattle.facet_json_grammar.specs.Node.{Node}
use Rattle.facet_json_grammar.specs.Tree.{Tree}
use Rattle.facet_json_grammar.specs.Document.{IsDocument}
use Rattle.facet_json_grammar.specs.Future.{finished}
use Rattle.facet_json_grammar.specs.Language.{strict}
use Rattle.facet_json_grammar.specs.StrictDocument.{IsStrict}
use Rattle.facet_json_grammar.specs.Now.{Now, fresh, fresh_in, future_of}
use Rattle.facet_json_core.specs.Reading.{LacksMemory}
use Rattle.facet_json_core.specs.Meaning.Nodes.{StandsBefore, StandsAfter}

-- Before whatever node the parser stood, the value is that node's reading, and the parser stands right after the node.
abbrev pub IsRead : {V : Type 0} → (List ℕ → Node → Option V) → Now → V → Now → Type 0
IsRead reading old value new = (w : Source) (c : Cursor ℕ) (node : Node) → StandsBefore old w c node →
    (reading w.bytes node ≡ Some value) × StandsAfter new w c node

-- Before whatever node the parser stood, memory ran out, or the node has no reading.
abbrev pub IsUnread : {V : Type 0} → (List ℕ → Node → Option V) → Now → Refusal → Type 0
IsUnread reading old refusal = (w : Source) (c : Cursor ℕ) (node : Node) → StandsBefore old w c node →
    LacksMemory refusal ⊎ (reading w.bytes node ≡ None)

-- Where the parser is a new one, its input has a document.
abbrev pub HasDocument : Now → Type 0
HasDocument old = (input : List ℕ) (mode : Mode) → old ≡ fresh input mode → (root : Node) × (value : Tree) × IsDocument input mode root value

-- Where the parser was a new strict one, and nothing is left behind what was read, its input is a strict document.
abbrev pub EndsStrictly : Now → Now → Type 0
EndsStrictly old new = (input : List ℕ) → old ≡ fresh_in input (strict plain) → future_of new ≡ finished → IsStrict input
