-- What the definitions of numbers, refusals and cursors mean, in the subject's own words. Each law is the contract of a function of the module `laws`.
use Rattle.std.specs.Prelude.{◌≡◌, ℕ, ◌≤◌, ◌↔◌, true, false, List, [], ◌∷◌, length, take, Some, Ok}
use Rattle.facet_format.specs.Part.{Source}
use Rattle.facet_format.specs.Cursor.{Cursor, Call, on_walk, Step, Run, Answer, event, next, peek, skip, capture}
use Rattle.facet_format.specs.Event.{Event}
use Rattle.facet_format.specs.Agree.{Agree, AgreeToLack}
use Rattle.facet_format.specs.Complaint.{out_of_memory}
use Rattle.facet_format.specs.declared.error.DeserializeErrorKind.{DeserializeErrorKind}
use Rattle.facet_format.specs.declared.error.DeserializeErrorKind.TheVariants as error
use Rattle.facet_format.specs.Views.{complaint_of}
use Rattle.facet_format.specs.Number.{Hint, IsNumber}
use Rattle.facet_format.specs.NumberParts.{parts, parts_len, parts_hint, is_bare, begins_number, is_number}

-- Where more than a minus stands, the number at the start is a number, and no longer prefix of the bytes is one.
abbrev pub NumberIsLongest : Type 0
NumberIsLongest = (bytes : List ℕ) → begins_number bytes ≡ true → is_bare (parts bytes) ≡ false →
    let n = parts_len (parts bytes) in
    (n ≤ length bytes) × IsNumber (take n bytes) (parts_hint (parts bytes))
    × ((k : ℕ) (hint : Hint) → k ≤ length bytes → IsNumber (take k bytes) hint → k ≤ n)

-- A text is tested to be a number with a hint exactly where it is one.
abbrev pub NumberIsTested : Type 0
NumberIsTested = (text : List ℕ) (hint : Hint) → (is_number text hint ≡ true) ↔ IsNumber text hint

-- What is refused as out of memory has the kind `OutOfMemory`.
abbrev pub MemoryIsItsKind : Type 0
MemoryIsItsKind = (kind : DeserializeErrorKind) → complaint_of kind ≡ out_of_memory → kind ≡ error.OutOfMemory

-- The call after a peek answers what the peek did.
abbrev pub CursorPeekIsNext : Type 0
CursorPeekIsNext = (w : Source) (c between last : Cursor ℕ) (shown answer : Answer) → Step (on_walk w) c peek shown between →
    Step (on_walk w) between next answer last → shown ≡ answer

-- A cursor answers a call in one way, and is then in one state, out of memory aside.
abbrev pub StepsAgree : Type 0
StepsAgree = (w : Source) (c d e : Cursor ℕ) (call : Call) (a b : Answer) → Step (on_walk w) c call a d →
    Step (on_walk w) c call b e → Agree a b d e

-- Two runs of one cursor with the same calls give the same answers, up to the first out of memory in either.
abbrev pub RunsAgree : Type 0
RunsAgree = (w : Source) (c d e : Cursor ℕ) (calls : List Call) (these those : List Answer) → Run (on_walk w) c calls these d →
    Run (on_walk w) c calls those e → AgreeToLack these those

-- A skip and a capture.
pub data PassesUnread : Call → Type 0 where
  by_skip : PassesUnread skip
  by_capture : PassesUnread capture

-- After a peek that answers an event, a skip and a capture answer what they answer without the peek, out of memory aside.
abbrev pub PeekChangesNoSkip : Type 0
PeekChangesNoSkip = (w : Source) (c peeked d e : Cursor ℕ) (call : Call) (shown : Event) (a b : Answer) → PassesUnread call →
    Step (on_walk w) c peek (event (Ok (Some shown))) peeked → Step (on_walk w) peeked call a d → Step (on_walk w) c call b e →
    AgreeToLack (a ∷ []) (b ∷ [])
