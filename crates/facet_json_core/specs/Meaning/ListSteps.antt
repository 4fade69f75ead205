-- What comes within a list.
use Rattle.std.specs.Prelude.{◌≡◌, ℕ, Bool, true, false, List, Option, Some, None}
use Rattle.facet_format.specs.Complaint.{Refusal}
use Rattle.facet_format.specs.Event.{Event, EventKind, sequence_start, sequence_end}
use Rattle.facet_json_grammar.specs.Node.{Node, scalar, array, object, Nodes}
use Rattle.facet_json_grammar.specs.Now.{Now}
use Rattle.facet_json_core.specs.Meaning.Passing.{WalksPast}
use Rattle.facet_json_core.specs.Meaning.Reading.{IsUnread}

-- the elements of a node that is an array
abbrev pub nodes_of : List ℕ → Node → Option Nodes
nodes_of buffer (scalar t) = None
nodes_of buffer (array first last nodes) = Some nodes
nodes_of buffer (object first last inside) = None

-- whether an array begins with such an event
abbrev pub begins_list : EventKind → Bool
begins_list (sequence_start kind) = true
begins_list _ = false

-- whether an array ends with such an event
abbrev pub ends_list : EventKind → Bool
ends_list sequence_end = true
ends_list _ = false

-- Wherever the parser stood on a walk, an array begins there, and its first event is passed.
pub record BeginsList (old new : Now) : Type 0 where
  pub given : Event
  pub begins : begins_list given.kind ≡ true
  pub walks : WalksPast old given new

-- Before whatever node the parser stood, memory ran out, or the node is no array.
abbrev pub IsNoList : Now → Refusal → Type 0
IsNoList old refusal = IsUnread nodes_of old refusal
