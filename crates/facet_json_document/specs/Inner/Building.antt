-- How nodes are made of events.
use Rattle.std.specs.Prelude.{◌≡◌, ℕ, ◌-◌, Bool, true, false, Option, Some, None, Ok, Err, List, [], ◌∷◌, ◌++◌, length, set, reverse, slice_range}
use Rattle.std.specs.Option.{unwrap_or}
use Rattle.facet_format.specs.Complaint.{Refusal}
use Rattle.facet_format.specs.Cursor.{event, next}
use Rattle.facet_format.specs.Event.{Event, EventKind, struct_start, struct_end, sequence_start, sequence_end, field_key, scalar, bytes_of, Passed}
use Rattle.facet_format.specs.Span.{Span, stop}
use Rattle.facet_json_core.specs.Told.{tree_of_scalar}
use Rattle.facet_json_grammar.specs.Future.{finished, events_before}
use Rattle.facet_json_grammar.specs.Move.{Moves}
use Rattle.facet_json_grammar.specs.Now.{Now, future_of}
use Rattle.facet_json_tree.specs.Depth.{beyond_event, too_deep_at, beyond}
use Rattle.facet_json_tree.specs.Inner.Beyond.{SameBeyond}
use Rattle.facet_json_document.specs.Nodes.{Node, leaf, key, list, object, closing, nothing, text_at, nodes_view}
use Rattle.facet_format.specs.declared.event.ContainerKind.{ContainerKind as RustContainerKind}
use Rattle.facet_format.specs.declared.event.ContainerKind.TheVariants as rust
use Rattle.facet_json_document.specs.declared.document.built.Built.{Built}
use Rattle.facet_json_document.specs.declared.document.built.Opened.{Opened}

-- the input, the nodes so far, and the containers that are not closed yet, the innermost first: the index of each one's node, and its offset
pub record NodesSoFar : Type 0 where
  pub input : List ℕ
  pub nodes : List Node
  pub unclosed : List Opened

-- a container begins at this offset, whose text and number of nodes are not yet known
abbrev pub begun : ℕ → Node → NodesSoFar → NodesSoFar
begun offset n s = record { input = s.input; nodes = s.nodes ++ n ∷ []; unclosed = record { index = length s.nodes; offset = offset } ∷ s.unclosed }

abbrev pub also : Node → NodesSoFar → NodesSoFar
also n s = record { input = s.input; nodes = s.nodes ++ n ∷ []; unclosed = s.unclosed }

-- the innermost container is closed, before this offset: from its node on so many are its own
abbrev pub closed_in : (List ℕ → ℕ → Node) → ℕ → List ℕ → List Node → List Opened → NodesSoFar
closed_in container end input nodes [] = record { input = input; nodes = nodes; unclosed = [] }
closed_in container end input nodes (o ∷ unclosed) =
    record { input = input; nodes = set nodes o.index (container (slice_range input o.offset end) (length nodes - o.index)); unclosed = unclosed }

abbrev pub closed : (List ℕ → ℕ → Node) → ℕ → NodesSoFar → NodesSoFar
closed container end s = closed_in container end s.input s.nodes s.unclosed

abbrev pub ended : (List ℕ → ℕ → Node) → ℕ → NodesSoFar → NodesSoFar
ended container end s = also closing (closed container end s)

-- the node of an event, after the others
abbrev pub added : EventKind → Span → NodesSoFar → NodesSoFar
added (scalar value) span s = also (leaf (text_at s.input span) (unwrap_or (tree_of_scalar value) nothing)) s
added (field_key name) span s = also (key (bytes_of name)) s
added (sequence_start kind) span s = begun span.offset (list (text_at s.input span) 0) s
added (struct_start kind) span s = begun span.offset (object (text_at s.input span) 0) s
added sequence_end span s = ended list (stop span) s
added struct_end span s = ended object (stop span) s

-- those of events, one after another
abbrev pub all_added : List Passed → NodesSoFar → NodesSoFar
all_added [] s = s
all_added (p ∷ events) s = all_added events (added p.event.kind p.event.span s)

abbrev pub none_yet : List ℕ → NodesSoFar
none_yet input = record { input = input; nodes = []; unclosed = [] }

-- the node of a container of that kind
abbrev pub container : RustContainerKind → List ℕ → ℕ → Node
container rust.Array = list
container rust.Object = object

abbrev pub built_view : Built → NodesSoFar
built_view b = record { input = b.input.now; nodes = nodes_view b.held.items b.nodes.items; unclosed = reverse b.unclosed.items }

-- The nodes are as they were, and as many containers may be opened.
abbrev pub Kept : Built → Built → Type 0
Kept old new = (built_view new ≡ built_view old) × (new.room ≡ old.room)

-- Where so many containers may be opened before the event, so many may be opened after it.
abbrev pub LeavesRoom : Option ℕ → EventKind → Span → Option ℕ → Type 0
LeavesRoom room kind span left = (others : Option ℕ → Option Span) → beyond_event kind span others room ≡ others left

-- The event's node is added, where the nodes are of that input, and as many containers may be opened as after it; or nothing is.
abbrev pub TakesNode : List ℕ → Option Event → Built → Built → Type 0
TakesNode input None old new = Kept old new
TakesNode input (Some e) old new =
    old.input.now ≡ input → (built_view new ≡ added e.kind e.span (built_view old)) × LeavesRoom old.room e.kind e.span new.room

-- The next event was passed and its node added, or the end was told.
abbrev pub AddsNext : Bool → Now → Now → NodesSoFar → NodesSoFar → Type 0
AddsNext true old new was is = (e : Event) × Moves old next (event (Ok (Some e))) new × (is ≡ added e.kind e.span was)
AddsNext false old new was is = Moves old next (event (Ok None)) new × (is ≡ was)

-- Events were passed, and these are their nodes.
pub record AddsSome (old now : Now) (is : NodesSoFar) : Type 0 where
  pub events : List Passed
  pub comes : future_of old ≡ events_before events (future_of now)
  pub nodes : is ≡ all_added events (none_yet old.buffer)

-- So it is of the nodes of this input, within the limit, and the parser is not refused.
pub record AddsSoFar (old : Now) (limit : Option ℕ) (bytes : List ℕ) (now : Now) (b : Built) : Type 0 where
  pub passed : AddsSome old now (built_view b)
  pub buffer : now.buffer ≡ old.buffer
  pub input : b.input.now ≡ bytes
  pub level : SameBeyond (future_of old) limit (future_of now) b.room
  pub free : old.cursor.refusal ≡ None → now.cursor.refusal ≡ None

-- All events were passed, and these are their nodes.
pub record AddsAll (old : Now) (nodes : List Node) : Type 0 where
  pub events : List Passed
  pub comes : future_of old ≡ events_before events finished
  pub made : nodes ≡ (all_added events (none_yet old.buffer)).nodes

-- ---- within a depth

-- The event opens a container where no more may be opened, and is refused for that.
pub record IsTooDeep (room : Option ℕ) (kind : EventKind) (span : Span) (refusal : Refusal) : Type 0 where
  pub opens : (others : Option ℕ → Option Span) → beyond_event kind span others room ≡ Some span
  pub so : refusal ≡ too_deep_at span

-- The next event is refused: nothing goes on so, or it opens a container where no more may be opened.
pub data RefusesNext (room : Option ℕ) (old new : Now) (refusal : Refusal) : Type 0 where
  stops : Moves old next (event (Err refusal)) new → RefusesNext room old new refusal
  too_deep : (span : Span) → beyond (future_of old) room ≡ Some span → refusal ≡ too_deep_at span → RefusesNext room old new refusal
