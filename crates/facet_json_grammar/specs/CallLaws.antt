-- Laws of a parser's calls on every input: a look ahead, refusals that stick, points to go back to, and that reading ends.
use Rattle.std.specs.Prelude.{◌≡◌, ◌≢◌, ◌<◌, ℕ, suc, List, [], ◌∷◌, length, Option, Some, None, Result, Ok, Err, MatchResult}
use Rattle.facet_json_token.specs.Gap.{Mode}
use Rattle.facet_format.specs.Complaint.{Refusal, refusal_at, save_limit}
use Rattle.facet_format.specs.Event.{Event}
use Rattle.facet_format.specs.Kept.{found}
use Rattle.facet_format.specs.Cursor.{Call, next, peek, save, restore, Spot, Answer, event, batch, skipped, raw, saved, greatest, no_memory_at, repeated}
use Rattle.facet_format.specs.Steps.{IsStep}
use Rattle.facet_json_grammar.specs.Reader.{Reader}
use Rattle.facet_json_grammar.specs.Now.{Now, fresh, current_span_of, SameInput, StandsAt}
use Rattle.facet_json_grammar.specs.Move.{Moves, MovesAll, with_kept}
use Rattle.facet_json_grammar.specs.Alone.{AllNext}

-- ---- a document

-- Each call is one step of the cursor, wherever the parser stands on a walk.
abbrev pub MoveIsStep : Type 0
MoveIsStep = (old new : Now) (call : Call) (answer : Answer) → Moves old call answer new →
    IsStep StandsAt old call answer new

-- ---- a look ahead

-- After a peek that answers an event, the next event is that one.
abbrev pub PeekIsNext : Type 0
PeekIsNext = (old between new : Now) (e : Event) (answer : Answer) → Moves old peek (event (Ok (Some e))) between →
    Moves between next answer new → answer ≡ event (Ok (Some e))

-- ---- refusals

-- what a call for events, a skip or a capture was refused with
abbrev pub refusal_in : Answer → Option Refusal
refusal_in (event (Err r)) = Some r
refusal_in (batch given (Err r)) = Some r
refusal_in (skipped (Err r)) = Some r
refusal_in (raw (Err r)) = Some r
refusal_in _ = None

-- None of the calls restores one of these points.
pub data RestoresNone (kept : List (ℕ × Spot Reader)) : List Call → Type 0 where
  no_call : RestoresNone kept []
  another : (call : Call) (calls : List Call) → ((point : ℕ) → call ≡ restore point → found point kept ≡ None) →
      RestoresNone kept calls → RestoresNone kept (call ∷ calls)

-- Each call that repeats a refusal is answered with this one.
pub data AllRepeat (r : Refusal) : List Call → List Answer → Type 0 where
  no_call : AllRepeat r [] []
  one_call : (call : Call) (answer : Answer) (calls : List Call) (answers : List Answer) →
      ((told : Answer) → repeated r call ≡ Some told → answer ≡ told) → AllRepeat r calls answers →
      AllRepeat r (call ∷ calls) (answer ∷ answers)

-- Once a call for events, a skip or a capture is refused, that refusal is repeated, and nothing changes, until a point that is kept is restored.
abbrev pub RefusalRepeats : Type 0
RefusalRepeats = (old stopped new : Now) (call : Call) (answer : Answer) (r : Refusal) (calls : List Call) (answers : List Answer) →
    Moves old call answer stopped → refusal_in answer ≡ Some r → RestoresNone stopped.cursor.kept calls →
    MovesAll stopped calls answers new → AllRepeat r calls answers × (new ≡ stopped)

-- ---- points

-- why a save answers no point, where the parser is not refused
pub data NoPoint (now : Now) : Refusal → Type 0 where
  no_number : now.cursor.counter ≡ greatest → NoPoint now (refusal_at save_limit (current_span_of now))
  no_memory : now.cursor.counter < greatest → NoPoint now (no_memory_at (current_span_of now))

-- A save of a parser that is not refused keeps where it stands under the next number; or it changes nothing, for lack of a number or of
-- memory.
abbrev pub SaveIsNumbered : Type 0
SaveIsNumbered = (old new : Now) (answer : Result ℕ Refusal) → old.cursor.refusal ≡ None → Moves old save (saved answer) new →
    MatchResult answer
    (λ n. (n ≡ suc old.cursor.counter) × (new ≡ with_kept old))
    (λ r. NoPoint old r × (new ≡ old))

-- None of the calls restores the point.
pub data NeverRestored (point : ℕ) : List Call → Type 0 where
  no_call : NeverRestored point []
  another : (call : Call) (calls : List Call) → (call ≡ restore point → ⊥) → NeverRestored point calls →
      NeverRestored point (call ∷ calls)

-- The parser stands where it stood at the save, and so what comes, whether it was peeked at, and the current span are what they were;
-- it is not refused; and the point is used up, while the others stay.
pub record IsBack (at_save before new : Now) (point : ℕ) : Type 0 where
  pub input : SameInput at_save new
  pub spot : new.cursor.spot ≡ at_save.cursor.spot
  pub unrefused : new.cursor.refusal ≡ None
  pub counter : new.cursor.counter ≡ before.cursor.counter
  pub used_up : found point new.cursor.kept ≡ None
  pub others : (other : ℕ) → other ≢ point → found other new.cursor.kept ≡ found other before.cursor.kept

-- After a save that answers a point under a number that no other has, and any calls that don't restore the point, its restore brings
-- the parser back.
abbrev pub RestoreBringsBack : Type 0
RestoreBringsBack = (at_save after_save before new : Now) (point : ℕ) (calls : List Call) (answers : List Answer) (answer : Answer) →
    found point at_save.cursor.kept ≡ None → Moves at_save save (saved (Ok point)) after_save → NeverRestored point calls →
    MovesAll after_save calls answers before → Moves before (restore point) answer new →
    IsBack at_save before new point

-- Whatever calls a new parser answered, no point has the next number.
abbrev pub NumbersAreNew : Type 0
NumbersAreNew = (buffer : List ℕ) (mode : Mode) (now : Now) (calls : List Call) (answers : List Answer) →
    MovesAll (fresh buffer mode) calls answers now → found (suc now.cursor.counter) now.cursor.kept ≡ None

-- A restore of a point that is not kept changes nothing.
abbrev pub UnknownChangesNothing : Type 0
UnknownChangesNothing = (old new : Now) (point : ℕ) (answer : Answer) → found point old.cursor.kept ≡ None →
    Moves old (restore point) answer new → new ≡ old

-- ---- the end

-- After events one answer is the end or a refusal.
pub data Ends : List Answer → Type 0 where
  at_the_end : (others : List Answer) → Ends (event (Ok None) ∷ others)
  at_a_refusal : (r : Refusal) (others : List Answer) → Ends (event (Err r) ∷ others)
  past_event : (e : Event) (others : List Answer) → Ends others → Ends (event (Ok (Some e)) ∷ others)

-- A new parser that is asked for the next event more often than its input has bytes answers the end or a refusal.
abbrev pub EndsInTime : Type 0
EndsInTime = (buffer : List ℕ) (mode : Mode) (new : Now) (calls : List Call) (answers : List Answer) → AllNext calls →
    length buffer < length calls → MovesAll (fresh buffer mode) calls answers new → Ends answers
