-- Answers of one cursor that two runs give to the same calls. A call may be answered in two ways only where memory is lacking in one.
use Rattle.std.specs.Prelude.{◌≡◌, List, [], ◌∷◌, Err}
use Rattle.facet_format.specs.Complaint.{Refusal, out_of_memory}
use Rattle.facet_format.specs.Event.{Event}
use Rattle.facet_format.specs.Cursor.{Answer, event, batch, skipped, raw, saved, Cursor}

-- The answer is a refusal for lack of memory.
pub data AnswerLacksMemory : Answer → Type 0 where
  no_event : (r : Refusal) → r.complaint ≡ out_of_memory → AnswerLacksMemory (event (Err r))
  no_more : (given : List Event) (r : Refusal) → r.complaint ≡ out_of_memory → AnswerLacksMemory (batch given (Err r))
  no_skip : (r : Refusal) → r.complaint ≡ out_of_memory → AnswerLacksMemory (skipped (Err r))
  no_capture : (r : Refusal) → r.complaint ≡ out_of_memory → AnswerLacksMemory (raw (Err r))
  no_point : (r : Refusal) → r.complaint ≡ out_of_memory → AnswerLacksMemory (saved (Err r))

-- One of two answers to a call is out of memory, or both are one answer, after which both cursors are one.
pub data Agree {P : Type 0} (a b : Answer) (d e : Cursor P) : Type 0 where
  lacks : AnswerLacksMemory a → Agree a b d e
  other_lacks : AnswerLacksMemory b → Agree a b d e
  is_one : a ≡ b → d ≡ e → Agree a b d e

-- The answers are the same one by one, up to the first that is out of memory in either list.
pub data AgreeToLack : List Answer → List Answer → Type 0 where
  no_answers : AgreeToLack [] []
  first_lacks : (a b : Answer) (these those : List Answer) → AnswerLacksMemory a → AgreeToLack (a ∷ these) (b ∷ those)
  second_lacks : (a b : Answer) (these those : List Answer) → AnswerLacksMemory b → AgreeToLack (a ∷ these) (b ∷ those)
  same_answer : (a : Answer) (these those : List Answer) → AgreeToLack these those → AgreeToLack (a ∷ these) (a ∷ those)
