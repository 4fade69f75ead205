-- What one call takes from the spot where it stands, whatever else a cursor keeps.
use Rattle.std.specs.Prelude.{◌≡◌, ℕ, List, true, false, Option, Some, None, Result, Ok, Err}
use Rattle.facet_format.specs.Complaint.{Refusal}
use Rattle.facet_format.specs.Event.{Event, Passed, takes_memory, peek_takes_memory}
use Rattle.facet_format.specs.Cursor.{World, an_event, the_end, a_refusal, Spot, unpeeked, peeked_at, current_span, no_memory_at, Cursor, at_spot, refused_at}
use Rattle.facet_format.specs.Part.{Part, has_brackets, skip_of, capture_of}
use Rattle.facet_json_grammar.specs.Now.{Now, SameInput, on_input}

-- The next event is passed.
pub data PassesOne {P : Type 0} (w : World P) (s : Spot P) : Result (Option Event) Refusal → Spot P → Type 0 where
  passes : (p : Passed) → w.comes s.place ≡ an_event p → PassesOne w s (Ok (Some p.event)) (unpeeked (w.past p s.place))
  passes_the_end : w.comes s.place ≡ the_end → PassesOne w s (Ok None) s
  passes_without_memory : (p : Passed) → w.comes s.place ≡ an_event p → takes_memory p.event.kind ≡ true → s.peeked ≡ false →
      PassesOne w s (Err (no_memory_at (current_span w s))) s
  passes_nothing : (r : Refusal) → w.comes s.place ≡ a_refusal → w.refuses s.place r → PassesOne w s (Err r) s

-- The next event is shown, and stays.
pub data ShowsOne {P : Type 0} (w : World P) (s : Spot P) : Result (Option Event) Refusal → Spot P → Type 0 where
  shows : (p : Passed) → w.comes s.place ≡ an_event p → ShowsOne w s (Ok (Some p.event)) (peeked_at s)
  shows_the_end : w.comes s.place ≡ the_end → ShowsOne w s (Ok None) s
  shows_without_memory : (p : Passed) → w.comes s.place ≡ an_event p → peek_takes_memory s.peeked p.event.kind ≡ true →
      ShowsOne w s (Err (no_memory_at (current_span w s))) s
  shows_nothing : (r : Refusal) → w.comes s.place ≡ a_refusal → w.refuses s.place r → ShowsOne w s (Err r) s

-- The next event is passed, once a queue has room for it: memory may be lacking for each.
pub data QueuesOne {P : Type 0} (w : World P) (s : Spot P) : Result (Option Event) Refusal → Spot P → Type 0 where
  queues : (p : Passed) → w.comes s.place ≡ an_event p → QueuesOne w s (Ok (Some p.event)) (unpeeked (w.past p s.place))
  queues_the_end : w.comes s.place ≡ the_end → QueuesOne w s (Ok None) s
  queues_without_memory : (p : Passed) → w.comes s.place ≡ an_event p → QueuesOne w s (Err (no_memory_at (current_span w s))) s
  queues_nothing : (r : Refusal) → w.comes s.place ≡ a_refusal → w.refuses s.place r → QueuesOne w s (Err r) s

-- The next part is passed, its text unread.
pub data SkipsOne {P : Type 0} (w : World P) (s : Spot P) : Result (Unit {0}) Refusal → Spot P → Type 0 where
  skips : (part : Part P) (place : P) → w.stands s.place part → skip_of part ≡ Ok place → SkipsOne w s (Ok tt) (unpeeked place)
  skips_without_memory : (part : Part P) → w.stands s.place part → has_brackets part ≡ true →
      SkipsOne w s (Err (no_memory_at (current_span w s))) s
  skips_nothing : (part : Part P) (r : Refusal) → w.stands s.place part → skip_of part ≡ Err r → SkipsOne w s (Err r) s

-- The next value is passed, and these are its bytes.
pub data CapturesOne {P : Type 0} (w : World P) (s : Spot P) : Result (List ℕ) Refusal → Spot P → Type 0 where
  captures : (part : Part P) (text : List ℕ) (place : P) → w.stands s.place part → capture_of w.bytes part ≡ Ok (text, place) →
      CapturesOne w s (Ok text) (unpeeked place)
  captures_without_memory : (part : Part P) → w.stands s.place part → has_brackets part ≡ true →
      CapturesOne w s (Err (no_memory_at (current_span w s))) s
  captures_nothing : (part : Part P) (r : Refusal) → w.stands s.place part → capture_of w.bytes part ≡ Err r →
      CapturesOne w s (Err r) s

-- The same of a cursor, which keeps a refusal and repeats it.
pub data QueuesNext {P : Type 0} (w : World P) (c : Cursor P) : Result (Option Event) Refusal → Cursor P → Type 0 where
  repeats : (r : Refusal) → c.refusal ≡ Some r → QueuesNext w c (Err r) c
  answers : (o : Option Event) (s : Spot P) → c.refusal ≡ None → QueuesOne w c.spot (Ok o) s → QueuesNext w c (Ok o) (at_spot c s)
  refuses : (r : Refusal) (s : Spot P) → c.refusal ≡ None → QueuesOne w c.spot (Err r) s → QueuesNext w c (Err r) (refused_at c s r)

-- The same of a parser.
pub record QueuesNow (old : Now) (result : Result (Option Event) Refusal) (new : Now) : Type 0 where
  pub input : SameInput old new
  pub step : QueuesNext (on_input old.buffer old.language) old.cursor result new.cursor
