-- An event that is taken: the next one, whatever it is; and what a look ahead says on a walk that passes what it looked for, or lets the
-- parser stand where it stood, an event peeked at or not.
use Rattle.std.specs.Prelude.{◌≡◌, ◌≤◌, ◌<◌, ℕ, Bool, true, false, suc, slice_get, length, Some, None}
use Rattle.facet_format.specs.Event.{Event, EventKind, Passed, array}
use Rattle.facet_format.specs.Cursor.{Cursor, Spot, at_spot, unpeeked}
use Rattle.facet_format.specs.Part.{Source}
use Rattle.facet_format.specs.Span.{stop}
use Rattle.facet_json_grammar.specs.Now.{Now, StandsAt, ahead, GoesOn}
use Rattle.facet_json_grammar.specs.Next.{PassesNext}
use Rattle.facet_json_reader.specs.declared.sought.Sought.{Sought}
use Rattle.facet_json_reader.specs.declared.sought.Sought.TheVariants as sought
use Rattle.facet_json_core.specs.Meaning.ListSteps.{ends_list}
use Rattle.facet_json_core.specs.Meaning.OneValue.{PassesByKind, PassesEndOf, PassesValue}
use Rattle.facet_json_core.specs.Meaning.Optional.{is_null_event}
use Rattle.facet_json_core.specs.Meaning.Passing.{WalksPast}

-- The event came next, and is passed.
pub record TakesNext (old : Now) (given : Event) (new : Now) : Type 0 where
  pub onward : GoesOn old new
  pub shorter : ahead new < ahead old
  pub passed : PassesNext old given new
  pub walks : WalksPast old given new
  pub by_kind : PassesByKind given.kind old new
  pub within : stop given.span ≤ length new.buffer

-- The event is such a one, and is passed.
pub record TakesThere (is : EventKind → Bool) (w : Source) (c : Cursor ℕ) (p : Passed) (new : Now) : Type 0 where
  pub so : is p.event.kind ≡ true
  pub stands : StandsAt new w (at_spot c (unpeeked (suc c.spot.place)))

-- Wherever the parser stands before an event of a walk and is not refused, that event is such a one, and is passed.
abbrev pub Takes : (EventKind → Bool) → Now → Now → Type 0
Takes is old new = (w : Source) (c : Cursor ℕ) (p : Passed) → StandsAt old w c → c.refusal ≡ None →
    slice_get w.events c.spot.place ≡ Some p → TakesThere is w c p new

-- The event is no such one, and stays the next one.
pub record StaysThere (is : EventKind → Bool) (w : Source) (c : Cursor ℕ) (p : Passed) (new : Now) : Type 0 where
  pub other : is p.event.kind ≡ false
  pub spot : Spot ℕ
  pub place : spot.place ≡ c.spot.place
  pub stands : StandsAt new w (at_spot c spot)

-- The parser stands where it stood; and wherever that is before an event of a walk and it is not refused, that event is no such one.
pub record StaysBefore (is : EventKind → Bool) (old new : Now) : Type 0 where
  pub there : new.cursor.spot.place ≡ old.cursor.spot.place
  pub finds : (w : Source) (c : Cursor ℕ) (p : Passed) → StandsAt old w c → c.refusal ≡ None →
      slice_get w.events c.spot.place ≡ Some p → StaysThere is w c p new

-- An event is passed that ends no list.
abbrev pub PassesItem : Now → Now → Type 0
PassesItem old new = (given : Event) × (ends_list given.kind ≡ false) × WalksPast old given new

-- Whether such an event is looked for in place of a value.
abbrev pub is_sought : Sought → EventKind → Bool
is_sought sought.ListEnd = ends_list
is_sought sought.Null = is_null_event

-- Whatever the input is: the end of a list is passed with the array that the parser stood within, and null as a value.
abbrev pub PassesSought : Sought → Now → Now → Type 0
PassesSought sought.ListEnd = PassesEndOf array
PassesSought sought.Null = PassesValue

-- What was looked for came, and is passed, wherever the parser stands on a walk; and so it is whatever the input is.
pub record TakesSought (which : Sought) (old new : Now) : Type 0 where
  pub takes : Takes (is_sought which) old new
  pub value : PassesSought which old new
  pub shorter : ahead new < ahead old
  pub free : new.cursor.refusal ≡ None
