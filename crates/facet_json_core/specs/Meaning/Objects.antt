-- What passing the events of an object does on a walk.
use Rattle.std.specs.Prelude.{◌≡◌, ℕ, Bool, true, false, slice_get, List, Option, Some, None, IsSome}
use Rattle.facet_format.specs.Complaint.{Refusal}
use Rattle.facet_format.specs.Cursor.{Cursor}
use Rattle.facet_format.specs.Part.{Source}
use Rattle.facet_format.specs.Event.{Event, EventKind, struct_start, struct_end, field_key, bytes_of, Passed}
use Rattle.facet_json_grammar.specs.Node.{Node, scalar, array, object, Members}
use Rattle.facet_json_grammar.specs.Now.{Now, StandsAt}
use Rattle.facet_json_core.specs.Reading.{LacksMemory}
use Rattle.facet_json_core.specs.Meaning.Passing.{WalksPast}
use Rattle.facet_json_core.specs.Meaning.Reading.{IsUnread}

-- ---- where an object begins

-- the members of a node that is an object
abbrev pub members_of : List ℕ → Node → Option Members
members_of buffer (scalar t) = None
members_of buffer (array first last nodes) = None
members_of buffer (object first last members) = Some members

-- whether an object begins with such an event
abbrev pub begins_object : EventKind → Bool
begins_object (struct_start kind) = true
begins_object _ = false

-- Wherever the parser stood on a walk, an object begins there, and its first event is passed.
abbrev pub BeginsObject : Now → Now → Type 0
BeginsObject old new = (given : Event) × (begins_object given.kind ≡ true) × WalksPast old given new

-- Before whatever node the parser stood, memory ran out, or the node is no object.
abbrev pub IsNoObject : Now → Refusal → Type 0
IsNoObject old refusal = IsUnread members_of old refusal

-- ---- within an object

-- the text of a key, and none at the end of an object
abbrev pub key_or_end : EventKind → Option (Option (List ℕ))
key_or_end (field_key name) = Some (Some (bytes_of name))
key_or_end struct_end = Some None
key_or_end _ = None

-- Wherever the parser stood on a walk, this key stands there, or the end of an object, and is passed.
abbrev pub PassesKey : Now → Option (List ℕ) → Now → Type 0
PassesKey old key new = (given : Event) × (key_or_end given.kind ≡ Some key) × WalksPast old given new

-- Wherever the parser stands before a key or the end of an object and is not refused, memory ran out.
pub record LacksKey (old : Now) (refusal : Refusal) : Type 0 where
  pub lacks : (w : Source) (c : Cursor ℕ) (p : Passed) → StandsAt old w c → c.refusal ≡ None → slice_get w.events c.spot.place ≡ Some p →
      IsSome (key_or_end p.event.kind) → LacksMemory refusal
