-- Where spans lie: within the input.
use Rattle.std.specs.Prelude.{◌≤◌, ℕ, List, [], ◌∷◌, length, Option, Some, None, Result, Ok, Err, IfSome, ⊤}
use Rattle.std.specs.List.{All}
use Rattle.facet_format.specs.Span.{stop}
use Rattle.facet_format.specs.Complaint.{Refusal}
use Rattle.facet_format.specs.Event.{Event}
use Rattle.facet_format.specs.Cursor.{Answer, event, batch, skipped, raw, saved, restored, spans}
use Rattle.facet_json_grammar.specs.Reader.{Reader}
pub use Rattle.facet_json_grammar.specs.UnreadLaws.{RefusalWithin}
use Rattle.facet_json_grammar.specs.Now.{Now}

-- The last token that was passed lies within the buffer.
abbrev pub ReaderWithin : List ℕ → Reader → Type 0
ReaderWithin buffer s = stop s.last ≤ length buffer

-- All that a parser keeps lies within its input.
pub record NowWithin (now : Now) : Type 0 where
  pub reader : ReaderWithin now.buffer now.cursor.spot.place
  pub kept : All (λ point. ReaderWithin now.buffer point.1.place) now.cursor.kept
  pub refusal : IfSome now.cursor.refusal (RefusalWithin now.buffer)

-- ---- answers

pub data EventsWithin (buffer : List ℕ) : List Event → Type 0 where
  no_events : EventsWithin buffer []
  one_event : (e : Event) (others : List Event) → stop e.span ≤ length buffer → EventsWithin buffer others →
      EventsWithin buffer (e ∷ others)

-- The refusal, if there is one, lies within the buffer.
abbrev pub ResultWithin : {A : Type 0} → List ℕ → Result A Refusal → Type 0
ResultWithin buffer (Ok value) = ⊤
ResultWithin buffer (Err refusal) = RefusalWithin buffer refusal

abbrev pub EventWithin : List ℕ → Result (Option Event) Refusal → Type 0
EventWithin buffer (Ok None) = ⊤
EventWithin buffer (Ok (Some e)) = stop e.span ≤ length buffer
EventWithin buffer (Err refusal) = RefusalWithin buffer refusal

-- All spans of the answer lie within the buffer.
abbrev pub AnswerWithin : List ℕ → Answer → Type 0
AnswerWithin buffer (event result) = EventWithin buffer result
AnswerWithin buffer (batch given result) = EventsWithin buffer given × ResultWithin buffer result
AnswerWithin buffer (skipped result) = ResultWithin buffer result
AnswerWithin buffer (raw result) = ResultWithin buffer result
AnswerWithin buffer (saved result) = ResultWithin buffer result
AnswerWithin buffer restored = ⊤
AnswerWithin buffer (spans s) = IfSome s (λ x. stop x ≤ length buffer)
