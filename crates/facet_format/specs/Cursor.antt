-- A cursor, and what each call of a reader answers there. It stands at places: on a walk, a finished list of events, the place says how
-- many events are passed; in an input it says what is passed and what is open.
use Rattle.std.specs.Prelude.{◌≡◌, ◌<◌, ◌≤◌, ℕ, zero, suc, Bool, true, false, List, [], ◌∷◌, length, slice_get, Option, Some, None, Result, Ok, Err}
use Rattle.facet_format.specs.Span.{Span}
use Rattle.facet_format.specs.Complaint.{Refusal, refusal_at, out_of_memory, save_limit}
use Rattle.facet_format.specs.Event.{Event, Passed, takes_memory, peek_takes_memory}
use Rattle.facet_format.specs.Kept.{found, without, with_point}
use Rattle.facet_format.specs.Part.{Part, has_brackets, skip_of, capture_of, part_at}
pub use Rattle.facet_format.specs.Part.{Source, last_token, last_of}

-- ---- calls

pub data Call : Type 0 where
  next : Call
  peek : Call
  -- up to so many events at once
  events : (limit : ℕ) → Call
  skip : Call
  capture : Call
  save : Call
  restore : (point : ℕ) → Call
  span : Call

pub data Answer : Type 0 where
  -- the event, or none at the end
  event : Result (Option Event) Refusal → Answer
  -- the events that were given out, with their number or the refusal after them
  batch : List Event → Result ℕ Refusal → Answer
  skipped : Result (Unit {0}) Refusal → Answer
  -- the bytes of the text that is captured
  raw : Result (Option (List ℕ)) Refusal → Answer
  saved : Result ℕ Refusal → Answer
  restored : Answer
  spans : Option Span → Answer

-- ---- places

-- what comes at a place
pub data Upcoming : Type 0 where
  an_event : Passed → Upcoming
  the_end : Upcoming
  a_refusal : Upcoming

-- places to stand at
pub record World (P : Type 0) : Type 1 where
  -- what comes at a place
  pub comes : P → Upcoming
  -- Where a refusal comes, it may be this one.
  pub refuses : P → Refusal → Type 0
  -- the place after an event
  pub past : Passed → P → P
  -- the last token before a place
  pub last : P → Span
  -- the input
  pub bytes : List ℕ
  -- This stands at a place, its text unread.
  pub stands : P → Part P → Type 0

abbrev pub event_or_end : Option Passed → Upcoming
event_or_end None = the_end
event_or_end (Some p) = an_event p

-- the places on a walk: nothing is refused there
abbrev pub on_walk : Source → World ℕ
on_walk w = record {
  comes = λ place. event_or_end (slice_get w.events place);
  refuses = λ place refusal. ⊥;
  past = λ p place. suc place;
  last = last_of w.events;
  bytes = w.bytes;
  stands = λ place part. part ≡ part_at w place;
}

-- ---- the cursor

-- a place, and whether the event there was peeked at
pub record Spot (P : Type 0) : Type 0 where
  pub place : P
  pub peeked : Bool

pub record Cursor (P : Type 0) : Type 0 where
  pub spot : Spot P
  -- what the last refused call was refused with
  pub refusal : Option Refusal
  pub kept : List (ℕ × Spot P)
  -- the number of the last point
  pub counter : ℕ

abbrev pub start_at : {P : Type 0} → P → Cursor P
start_at place = record { spot = record { place = place; peeked = false }; refusal = None; kept = []; counter = 0 }

-- before a walk's first event
abbrev pub start : Cursor ℕ
start = start_at 0

-- the last token of an event that comes and was peeked at, else the last one before it
abbrev pub last_seen : Bool → Upcoming → Span → Span
last_seen true (an_event p) last = p.last
last_seen _ _ last = last

-- the last token that was read, also of an event that was peeked at
abbrev pub current_span : {P : Type 0} → World P → Spot P → Span
current_span w spot = last_seen spot.peeked (w.comes spot.place) (w.last spot.place)

abbrev pub unpeeked : {P : Type 0} → P → Spot P
unpeeked place = record { place = place; peeked = false }

abbrev pub peeked_at : {P : Type 0} → Spot P → Spot P
peeked_at spot = record spot { peeked = true }

-- These events come from a place on, and after them the cursor is at the other place.
pub data Comes {P : Type 0} (w : World P) : P → List Event → P → Type 0 where
  no_event : (place : P) → Comes w place [] place
  one_event : (place after : P) (p : Passed) (others : List Event) → w.comes place ≡ an_event p →
      Comes w (w.past p place) others after → Comes w place (p.event ∷ others) after

-- after these events, the last of which leads to the place
abbrev pub spot_after : {P : Type 0} → List Event → P → Spot P → Spot P
spot_after [] place spot = spot
spot_after (e ∷ others) place spot = unpeeked place

-- the cursor at another spot
abbrev pub at_spot : {P : Type 0} → Cursor P → Spot P → Cursor P
at_spot c spot = record c { spot = spot }

-- the cursor at another spot, and refused
abbrev pub refused_at : {P : Type 0} → Cursor P → Spot P → Refusal → Cursor P
refused_at c spot refusal = record c { spot = spot; refusal = Some refusal }

-- with one more point
abbrev pub kept_here : {P : Type 0} → Cursor P → Cursor P
kept_here c = record c { kept = with_point (suc c.counter) c.spot c.kept; counter = suc c.counter }

-- back at the spot of a point, which is used up
abbrev pub back_at : {P : Type 0} → Cursor P → ℕ → Spot P → Cursor P
back_at c point spot = record c { spot = spot; refusal = None; kept = without point c.kept }

-- ---- steps

-- the greatest number of a point, 2^64 - 1
abbrev pub greatest : ℕ
greatest = 0xffff_ffff_ffff_ffff

-- an allocation failed while this was the last token
abbrev pub no_memory_at : Span → Refusal
no_memory_at last = refusal_at out_of_memory last

-- what a refused cursor answers again and again, where the call repeats the refusal
abbrev pub repeated : Refusal → Call → Option Answer
repeated r next = Some (event (Err r))
repeated r peek = Some (event (Err r))
repeated r (events zero) = None
repeated r (events (suc k)) = Some (batch [] (Err r))
repeated r skip = Some (skipped (Err r))
repeated r capture = Some (raw (Err r))
repeated r save = Some (saved (Err r))
repeated r (restore point) = None
repeated r span = None

-- The call may be answered so, and leaves the cursor so.
pub data Step {P : Type 0} (w : World P) (c : Cursor P) : Call → Answer → Cursor P → Type 0 where
  repeats : (r : Refusal) (call : Call) (answer : Answer) → c.refusal ≡ Some r → repeated r call ≡ Some answer →
      Step w c call answer c
  passes : (p : Passed) → c.refusal ≡ None → w.comes c.spot.place ≡ an_event p →
      Step w c next (event (Ok (Some p.event))) (at_spot c (unpeeked (w.past p c.spot.place)))
  -- an event that was peeked at does not allocate any more
  passes_without_memory : (p : Passed) → c.refusal ≡ None → w.comes c.spot.place ≡ an_event p →
      takes_memory p.event.kind ≡ true → c.spot.peeked ≡ false →
      Step w c next (event (Err (no_memory_at (current_span w c.spot)))) (refused_at c c.spot (no_memory_at (current_span w c.spot)))
  passes_the_end : c.refusal ≡ None → w.comes c.spot.place ≡ the_end → Step w c next (event (Ok None)) c
  passes_nothing : (r : Refusal) → c.refusal ≡ None → w.comes c.spot.place ≡ a_refusal → w.refuses c.spot.place r →
      Step w c next (event (Err r)) (refused_at c c.spot r)
  peeks : (p : Passed) → c.refusal ≡ None → w.comes c.spot.place ≡ an_event p →
      Step w c peek (event (Ok (Some p.event))) (at_spot c (peeked_at c.spot))
  -- a second peek of an event allocates only for the copy of a text that is made
  peeks_without_memory : (p : Passed) → c.refusal ≡ None → w.comes c.spot.place ≡ an_event p →
      peek_takes_memory c.spot.peeked p.event.kind ≡ true →
      Step w c peek (event (Err (no_memory_at (current_span w c.spot)))) (refused_at c c.spot (no_memory_at (current_span w c.spot)))
  peeks_at_the_end : c.refusal ≡ None → w.comes c.spot.place ≡ the_end → Step w c peek (event (Ok None)) c
  peeks_at_nothing : (r : Refusal) → c.refusal ≡ None → w.comes c.spot.place ≡ a_refusal → w.refuses c.spot.place r →
      Step w c peek (event (Err r)) (refused_at c c.spot r)
  -- asked for none, also where the cursor is refused
  gives_none : Step w c (events 0) (batch [] (Ok 0)) c
  -- as many as are asked for, or all up to the end
  gives : (k n : ℕ) (given : List Event) (place : P) → c.refusal ≡ None → Comes w c.spot.place given place → n ≡ length given →
      n ≤ suc k → (n ≤ k → w.comes place ≡ the_end) →
      Step w c (events (suc k)) (batch given (Ok n)) (at_spot c (spot_after given place c.spot))
  -- memory ran out after these events, where more stand there
  gives_without_memory : (k : ℕ) (given : List Event) (place : P) (p : Passed) (spot : Spot P) → c.refusal ≡ None →
      Comes w c.spot.place given place → length given ≤ k → w.comes place ≡ an_event p → spot ≡ spot_after given place c.spot →
      Step w c (events (suc k)) (batch given (Err (no_memory_at (current_span w spot)))) (refused_at c spot (no_memory_at (current_span w spot)))
  gives_up : (k : ℕ) (given : List Event) (place : P) (r : Refusal) → c.refusal ≡ None → Comes w c.spot.place given place →
      length given ≤ k → w.comes place ≡ a_refusal → w.refuses place r →
      Step w c (events (suc k)) (batch given (Err r)) (refused_at c (spot_after given place c.spot) r)
  skips : (part : Part P) (place : P) → c.refusal ≡ None → w.stands c.spot.place part → skip_of part ≡ Ok place →
      Step w c skip (skipped (Ok tt)) (at_spot c (unpeeked place))
  -- Open brackets are remembered, and no more.
  skips_without_memory : (part : Part P) → c.refusal ≡ None → w.stands c.spot.place part → has_brackets part ≡ true →
      Step w c skip (skipped (Err (no_memory_at (current_span w c.spot)))) (refused_at c c.spot (no_memory_at (current_span w c.spot)))
  skips_nothing : (part : Part P) (r : Refusal) → c.refusal ≡ None → w.stands c.spot.place part → skip_of part ≡ Err r →
      Step w c skip (skipped (Err r)) (refused_at c c.spot r)
  captures : (part : Part P) (text : List ℕ) (place : P) → c.refusal ≡ None → w.stands c.spot.place part →
      capture_of w.bytes part ≡ Ok (text, place) → Step w c capture (raw (Ok (Some text))) (at_spot c (unpeeked place))
  captures_without_memory : (part : Part P) → c.refusal ≡ None → w.stands c.spot.place part → has_brackets part ≡ true →
      Step w c capture (raw (Err (no_memory_at (current_span w c.spot)))) (refused_at c c.spot (no_memory_at (current_span w c.spot)))
  captures_nothing : (part : Part P) (r : Refusal) → c.refusal ≡ None → w.stands c.spot.place part →
      capture_of w.bytes part ≡ Err r → Step w c capture (raw (Err r)) (refused_at c c.spot r)
  saves : c.refusal ≡ None → c.counter < greatest → Step w c save (saved (Ok (suc c.counter))) (kept_here c)
  -- a refused save changes nothing, and the refusal is not kept
  saves_at_the_limit : c.refusal ≡ None → c.counter ≡ greatest →
      Step w c save (saved (Err (refusal_at save_limit (current_span w c.spot)))) c
  saves_without_memory : c.refusal ≡ None → c.counter < greatest →
      Step w c save (saved (Err (no_memory_at (current_span w c.spot)))) c
  restores : (point : ℕ) (spot : Spot P) → found point c.kept ≡ Some spot →
      Step w c (restore point) restored (back_at c point spot)
  restores_nothing : (point : ℕ) → found point c.kept ≡ None → Step w c (restore point) restored c
  tells : Step w c span (spans (Some (current_span w c.spot))) c

-- All calls in order are answered so.
pub data Run {P : Type 0} (w : World P) : Cursor P → List Call → List Answer → Cursor P → Type 0 where
  no_calls : (c : Cursor P) → Run w c [] [] c
  one_call : (c between last : Cursor P) (call : Call) (answer : Answer) (calls : List Call) (answers : List Answer) →
      Step w c call answer between → Run w between calls answers last →
      Run w c (call ∷ calls) (answer ∷ answers) last
