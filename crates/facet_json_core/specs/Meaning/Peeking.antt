-- What a look ahead says on a walk.
use Rattle.std.specs.Prelude.{◌≡◌, ℕ, Bool, slice_get, Some, None}
use Rattle.facet_format.specs.Event.{EventKind, Passed}
use Rattle.facet_format.specs.Cursor.{Cursor, at_spot, peeked_at}
use Rattle.facet_format.specs.Part.{Source}
use Rattle.facet_json_grammar.specs.Now.{Now, StandsAt}

-- The answer is whether this event is such a one, and the event stays the next one.
pub record Shows (is : EventKind → Bool) (w : Source) (c : Cursor ℕ) (p : Passed) (found : Bool) (new : Now) : Type 0 where
  pub shown : is p.event.kind ≡ found
  pub stands : StandsAt new w (at_spot c (peeked_at c.spot))

-- Wherever the parser stands before an event of a walk and is not refused, the answer is whether that event is such a one.
abbrev pub Finds : (EventKind → Bool) → Now → Bool → Now → Type 0
Finds is old found new = (w : Source) (c : Cursor ℕ) (p : Passed) → StandsAt old w c → c.refusal ≡ None →
    slice_get w.events c.spot.place ≡ Some p → Shows is w c p found new
