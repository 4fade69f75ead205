-- What a parser answers where only the next event is asked for, again and again, on an input without a document.
use Rattle.std.specs.Prelude.{◌≡◌, true, List, [], ◌∷◌, Some, Ok, Err}
use Rattle.facet_format.specs.Span.{Span}
use Rattle.facet_format.specs.Complaint.{Refusal}
use Rattle.facet_format.specs.Event.{Passed, takes_memory}
use Rattle.facet_format.specs.Cursor.{Call, next, Answer, event, no_memory_at}

-- Only the next event is asked for.
pub data AllNext : List Call → Type 0 where
  no_call : AllNext []
  one_next : (calls : List Call) → AllNext calls → AllNext (next ∷ calls)

-- Every answer is this refusal.
pub data AllRefused (r : Refusal) : List Answer → Type 0 where
  no_answer : AllRefused r []
  one_refused : (answers : List Answer) → AllRefused r answers → AllRefused r (event (Err r) ∷ answers)

-- One event an answer, and after all of them this refusal again and again; or, in place of an event that allocates, out of
-- memory from then on, at the last token of the event before. `last` is the last token before these events.
pub data AnswersAlone (refusal : Refusal) : Span → List Passed → List Answer → Type 0 where
  not_asked : (last : Span) (events : List Passed) → AnswersAlone refusal last events []
  one_event : (last : Span) (p : Passed) (events : List Passed) (answers : List Answer) →
      AnswersAlone refusal p.last events answers →
      AnswersAlone refusal last (p ∷ events) (event (Ok (Some p.event)) ∷ answers)
  refused : (last : Span) (answers : List Answer) → AllRefused refusal answers → AnswersAlone refusal last [] answers
  wants_memory : (last : Span) (p : Passed) (events : List Passed) (answers : List Answer) → takes_memory p.event.kind ≡ true →
      AllRefused (no_memory_at last) answers → AnswersAlone refusal last (p ∷ events) answers
