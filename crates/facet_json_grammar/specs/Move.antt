-- What a call does to a parser on any input, whether a document stands there or not: one step of a cursor over the input's places. That
-- on a document it is a cursor on the walk follows.
use Rattle.std.specs.Prelude.{ℕ, List, Some, Ok}
use Rattle.facet_format.specs.Cursor.{Call, Answer, Step, Run, kept_here, next, event}
use Rattle.facet_format.specs.Event.{Event}
use Rattle.facet_format.specs.Kept.{without}
use Rattle.facet_format.specs.Steps.{IsStep}
use Rattle.facet_json_grammar.specs.Now.{Now, SameInput, StandsAt, on_input}

-- The call may be answered so, and leaves the parser so.
pub record Moves (old : Now) (call : Call) (answer : Answer) (new : Now) : Type 0 where
  pub input : SameInput old new
  pub step : Step (on_input old.buffer old.language) old.cursor call answer new.cursor

-- The next event is this one.
abbrev pub MovesBy : Now → Event → Now → Type 0
MovesBy old given new = Moves old next (event (Ok (Some given))) new

-- Where the input has a document, that is a step of a cursor on its walk.
abbrev pub StepsBy : Now → Event → Now → Type 0
StepsBy old given new = IsStep StandsAt old next (event (Ok (Some given))) new

-- All calls in order are answered so.
pub record MovesAll (old : Now) (calls : List Call) (answers : List Answer) (new : Now) : Type 0 where
  pub input : SameInput old new
  pub run : Run (on_input old.buffer old.language) old.cursor calls answers new.cursor

-- with one more point
abbrev pub with_kept : Now → Now
with_kept now = record now { cursor = kept_here now.cursor }

-- without the point of this number
abbrev pub without_point : ℕ → Now → Now
without_point point now = record now { cursor = record now.cursor { kept = without point now.cursor.kept } }
