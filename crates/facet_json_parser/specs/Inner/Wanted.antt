-- What a caller wants next, or looks for.
use Rattle.std.specs.Prelude.{◌≡◌, ◌≢◌, ◌<◌, ℕ, false, List, Option, Some, Ok, is_some}
use Rattle.facet_format.specs.Cursor.{event}
use Rattle.facet_format.specs.Event.{Event, EventKind, Passed}
use Rattle.facet_json_grammar.specs.Future.{Future, gives}
use Rattle.facet_json_grammar.specs.Language.{Language}
use Rattle.facet_json_grammar.specs.Move.{MovesBy, StepsBy}
use Rattle.facet_json_grammar.specs.Next.{PassesNext}
use Rattle.facet_json_grammar.specs.Now.{Now, ahead, GoesOn}
use Rattle.facet_json_grammar.specs.Within.{AnswerWithin}
use Rattle.facet_json_reader.specs.declared.reader.Reader.{Reader as RustReader}
use Rattle.facet_json_reader.specs.Inner.InSight.{PassesSeveral, Stays}
use Rattle.facet_json_parser.specs.declared.lookahead.Lookahead.{Lookahead as RustLookahead}

-- The event came next and is passed, as `next_event` passes it.
pub record PassesWanted (old : Now) (given : Event) (new : Now) : Type 0 where
  pub moves : MovesBy old given new
  pub steps : StepsBy old given new
  pub next : PassesNext old given new
  pub onward : GoesOn old new
  pub shorter : ahead new < ahead old
  pub within : AnswerWithin new.buffer (event (Ok (Some given)))

-- No event of this kind comes first.
abbrev pub NeverGives : EventKind → Future → Type 0
NeverGives kind future = (p : Passed) (rest : Future) → future ≡ gives p rest → p.event.kind ≢ kind

-- Some events came next, one after another, and each is passed as `next_event` passes it, and taken.
pub data PassesMore {T : Type 0} (takes : Option Event → T → T → Type 0) (old : Now) (x : T) : Now → T → Type 0 where
  none_passed : PassesMore takes old x old x
  one_passed : (now new : Now) (y z : T) (e : Event) → PassesMore takes old x now y → PassesWanted now e new → takes (Some e) y z →
      PassesMore takes old x new z
  none_taken : (now : Now) (y z : T) → PassesMore takes old x now y → Stays takes y z → PassesMore takes old x now z

-- The lookahead stays, or it holds no event, and its reader alone moves, past some events that are taken.
pub data ReaderPasses {T : Type 0} (takes : Option Event → T → T → Type 0) (buffer : List ℕ) (language : Language) (s : RustLookahead) (x : T) :
    RustLookahead → T → Type 0 where
  reader_stays : ReaderPasses takes buffer language s x s x
  reader_moves : (t : RustReader) (y : T) → is_some s.held ≡ false → PassesSeveral takes buffer language s.reader x t y →
      ReaderPasses takes buffer language s x (record s { reader = t }) y
