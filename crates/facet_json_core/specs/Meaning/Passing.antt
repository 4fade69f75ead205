-- What the next event does on a walk.
use Rattle.std.specs.Prelude.{◌≡◌, ℕ, true, List, suc, slice_get, Option, Some, None}
use Rattle.facet_format.specs.Complaint.{Refusal}
use Rattle.facet_format.specs.Event.{Event, Passed}
use Rattle.facet_format.specs.Cursor.{Cursor, at_spot, unpeeked}
use Rattle.facet_format.specs.Part.{Source}
use Rattle.facet_json_grammar.specs.Node.{Node}
use Rattle.facet_json_grammar.specs.Now.{Now, StandsAt}
use Rattle.facet_json_grammar.specs.Next.{PassesNext}
use Rattle.facet_json_core.specs.Reading.{LacksMemory}
use Rattle.facet_json_core.specs.Meaning.Optional.{is_null_event}

-- The event stands at the cursor's place, and is passed.
pub record PassesEvent (w : Source) (c : Cursor ℕ) (given : Event) (new : Now) : Type 0 where
  pub passed : Passed
  pub at_place : slice_get w.events c.spot.place ≡ Some passed
  pub same : passed.event ≡ given
  pub stands : StandsAt new w (at_spot c (unpeeked (suc c.spot.place)))

-- Wherever the parser stands on a walk and is not refused, the event stands there, and is passed.
abbrev pub WalksPast : Now → Event → Now → Type 0
WalksPast old given new = (w : Source) (c : Cursor ℕ) → StandsAt old w c → c.refusal ≡ None → PassesEvent w c given new

-- Wherever the parser stands before an event of a walk and is not refused, memory ran out.
pub record LacksAlone (old : Now) (refusal : Refusal) : Type 0 where
  pub lacks : (w : Source) (c : Cursor ℕ) (p : Passed) → StandsAt old w c → c.refusal ≡ None →
      slice_get w.events c.spot.place ≡ Some p → LacksMemory refusal

-- Null came next, on every input, and is passed. Wherever the parser stood on a walk and was not refused, it stood there.
pub record PassesNull (old new : Now) : Type 0 where
  pub given : Event
  pub null : is_null_event given.kind ≡ true
  pub passed : PassesNext old given new
  pub walks : WalksPast old given new

-- Wherever the parser stands before null on a walk and is not refused, memory ran out.
pub record LacksNull (old : Now) (refusal : Refusal) : Type 0 where
  pub lacks : (w : Source) (c : Cursor ℕ) (p : Passed) → StandsAt old w c → c.refusal ≡ None →
      slice_get w.events c.spot.place ≡ Some p → is_null_event p.event.kind ≡ true → LacksMemory refusal

-- Of every node nothing is known: its value is passed unread.
abbrev pub anything : List ℕ → Node → Option (Unit {0})
anything buffer node = Some tt

-- The parser stands further on, on the walk, with the cursor's points and refusal as they were.
pub record StandsOnward (w : Source) (c : Cursor ℕ) (new : Now) : Type 0 where
  pub place : ℕ
  pub stands : StandsAt new w (at_spot c (unpeeked place))

-- Wherever the parser stood on a walk and was not refused, it stands further on.
abbrev pub MovesOn : Now → Now → Type 0
MovesOn old new = (w : Source) (c : Cursor ℕ) → StandsAt old w c → c.refusal ≡ None → StandsOnward w c new
