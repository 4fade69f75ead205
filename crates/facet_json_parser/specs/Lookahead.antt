-- Where a parser stands that reads the next event before it is asked for: the event, if it is read, is held, and its container open
-- already; the definitions see the place before it.
use Rattle.std.specs.Prelude.{◌≡◌, ℕ, Bool, true, false, List, Option, Some, None, IfSome}
use Rattle.facet_format.specs.Cursor.{Spot}
use Rattle.facet_format.specs.Event.{ContainerKind, EventKind, struct_start, sequence_start, Event, Passed, holds_made}
use Rattle.facet_json_grammar.specs.Language.{Language}
use Rattle.facet_json_grammar.specs.Future.{Future, gives, around}
use Rattle.facet_json_grammar.specs.Reader.{Reader, first_reader, past, future_at}
use Rattle.facet_json_reader.specs.Views.{with_opened}

pub record Lookahead : Type 0 where
  -- where the tokens go on; the container that the held event opens is open
  pub reader : Reader
  -- an event that is read, but not passed
  pub held : Option Passed
  -- whether a peek answered it
  pub shown : Bool

-- at a reader, where no event is held
abbrev pub lookahead_at : Reader → Lookahead
lookahead_at s = record { reader = s; held = None; shown = false }

-- the same with this event held, if one is, which was not shown
abbrev pub lookahead_with : Option Passed → Lookahead → Lookahead
lookahead_with held f = record f { held = held; shown = false }

-- before the root
abbrev pub first_lookahead : Lookahead
first_lookahead = lookahead_at first_reader

-- ---- what the definitions see

-- the open containers without that of an event of this kind
abbrev pub without_opened : EventKind → List ContainerKind → List ContainerKind
without_opened (struct_start kind) stack = around stack
without_opened (sequence_start kind) stack = around stack
without_opened _ stack = stack

-- the containers that are open before the held event
abbrev pub before : Option Passed → List ContainerKind → List ContainerKind
before None stack = stack
before (Some p) stack = without_opened p.event.kind stack

-- the place before the held event
abbrev pub reader_before : Lookahead → Reader
reader_before f = record f.reader { stack = before f.held f.reader.stack }

-- whether an event is held that a peek answered
abbrev pub is_shown : Option Passed → Bool → Bool
is_shown None shown = false
is_shown (Some p) shown = shown

-- the place, and whether the event there was peeked at
abbrev pub spot_of : Lookahead → Spot Reader
spot_of f = record { place = reader_before f; peeked = is_shown f.held f.shown }

-- The event comes at the place before it, and its container, if it opens one, is open already.
pub record HoldsNext (buffer : List ℕ) (language : Language) (f : Lookahead) (p : Passed) : Type 0 where
  pub rest : Future
  pub comes : future_at buffer language (reader_before f) ≡ gives p rest
  pub opened : f.reader.stack ≡ with_opened p.event.kind (reader_before f).stack

-- An event that is held is the one that comes.
abbrev pub HoldsWhatComes : List ℕ → Language → Lookahead → Type 0
HoldsWhatComes buffer language f = IfSome f.held (HoldsNext buffer language f)

-- ---- what is done with the event

-- after the event, which stands in these containers
abbrev pub lookahead_past : Passed → List ContainerKind → Lookahead → Lookahead
lookahead_past p stack f = lookahead_at (past p (record f.reader { stack = stack }))

-- The event that is held is taken. Its container, if it opens one, was open already.
pub record TakesHeld (f : Lookahead) (e : Event) (g : Lookahead) : Type 0 where
  pub p : Passed
  pub held : f.held ≡ Some p
  pub event : e ≡ p.event
  pub new : (stack : List ContainerKind) → f.reader.stack ≡ with_opened p.event.kind stack → g ≡ lookahead_past p stack f

-- The event that is held is shown.
pub record Lends (f : Lookahead) (e : Event) (g : Lookahead) : Type 0 where
  pub p : Passed
  pub held : f.held ≡ Some p
  pub event : e ≡ p.event
  pub new : g ≡ record f { shown = true }

-- The event that is held has a text that is made.
pub record Withholds (f : Lookahead) (g : Lookahead) : Type 0 where
  pub p : Passed
  pub held : f.held ≡ Some p
  pub made : holds_made p.event.kind ≡ true
  pub new : g ≡ f
