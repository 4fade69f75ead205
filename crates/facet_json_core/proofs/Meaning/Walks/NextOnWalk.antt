-- What the parser's answer for the next event says where it stands on a walk.
use Rattle.std.proofs.Common.{◌≡◌, ℕ, None, Some, Ok, Err, sym, ap, ◌∙◌}
use Rattle.std.specs.Prelude.{slice_get}
use Rattle.facet_format.specs.Complaint.{Refusal}
use Rattle.facet_format.specs.Event.{Event, Passed}
use Rattle.facet_format.specs.Cursor.{Cursor, on_walk, event_or_end, an_event, the_end, current_span, no_memory_at, next, Answer, event, Step, repeats, passes, passes_without_memory, passes_the_end, passes_nothing}
use Rattle.facet_format.specs.Part.{Source}
use Rattle.facet_format.specs.Steps.{IsStep}
use Rattle.facet_json_grammar.specs.Now.{Now, StandsAt, GoesOn}
use Rattle.facet_json_core.specs.Reading.{LacksMemory}
use Rattle.facet_json_core.specs.Meaning.Nodes.{KeepsOn}
use Rattle.facet_json_core.specs.Meaning.Passing.{PassesEvent, WalksPast, LacksAlone}

event-there : (o : _) (p : Passed) → event_or_end o ≡ an_event p → o ≡ Some p
event-there None p e = cc
event-there (Some q) p e = cc

step-passes : (w : Source) (c d : Cursor ℕ) (given : Event) (new : Now) (answer : Answer) → c.refusal ≡ None →
    answer ≡ event (Ok (Some given)) → Step (on_walk w) c next answer d → StandsAt new w d → PassesEvent w c given new
step-passes w c d given new answer free is (repeats s call _ f a) stands = cc
step-passes w c d given new answer free is (passes p none up) stands =
    record { passed = p; at_place = event-there (slice_get w.events c.spot.place) p up; same = cc; stands = stands }
step-passes w c d given new answer free is (passes_without_memory p none up takes off) stands = cc
step-passes w c d given new answer free is (passes_the_end none up) stands = cc
step-passes w c d given new answer free is (passes_nothing q none up so) stands = cc

-- The event that is answered stands on the walk, and is passed.
pub answer-walks : (old new : Now) (given : Event) (answer : Answer) → answer ≡ event (Ok (Some given)) →
    IsStep StandsAt old next answer new → WalksPast old given new
answer-walks old new given answer is step w c stands free =
    let s = step w c stands in
    step-passes w c s.0 given new answer free is s.1 s.2

step-lacks : (w : Source) (c d : Cursor ℕ) (p : Passed) (r : Refusal) (answer : Answer) → c.refusal ≡ None →
    slice_get w.events c.spot.place ≡ Some p → answer ≡ event (Err r) → Step (on_walk w) c next answer d → LacksMemory r
step-lacks w c d p r answer free at is (repeats s call _ f a) = cc
step-lacks w c d p r answer free at is (passes q none up) = cc
step-lacks w c d p r answer free at is (passes_without_memory q none up takes off) =
    let same : no_memory_at (current_span (on_walk w) c.spot) ≡ r = cc in
    ap (λ (x : Refusal). x.complaint) (sym same)
step-lacks w c d p r answer free at is (passes_the_end none up) = cc
step-lacks w c d p r answer free at is (passes_nothing q none up so) = absurd so

-- Before an event of the walk, a refusal is out of memory.
pub answer-lacks : (old new : Now) (r : Refusal) (answer : Answer) → answer ≡ event (Err r) →
    IsStep StandsAt old next answer new → LacksAlone old r
answer-lacks old new r answer is step = record {
  lacks = λ w c p stands free at. let s = step w c stands in step-lacks w c s.0 p r answer free at is s.1;
}

step-no_end : (w : Source) (c d : Cursor ℕ) (p : Passed) (answer : Answer) → c.refusal ≡ None →
    slice_get w.events c.spot.place ≡ Some p → answer ≡ event (Ok None) → Step (on_walk w) c next answer d → ⊥
step-no_end w c d p answer free at is (repeats s call _ f a) = cc
step-no_end w c d p answer free at is (passes q none up) = cc
step-no_end w c d p answer free at is (passes_without_memory q none up takes off) = cc
step-no_end w c d p answer free at is (passes_the_end none up) =
    let there : an_event p ≡ the_end = sym (ap event_or_end at) ∙ up in cc
step-no_end w c d p answer free at is (passes_nothing q none up so) = cc

-- Before an event of the walk, the end is not answered.
pub answer-no_end : (old new : Now) (r : Refusal) (answer : Answer) → answer ≡ event (Ok None) →
    IsStep StandsAt old next answer new → LacksAlone old r
answer-no_end old new r answer is step = record {
  lacks = λ w c p stands free at. let s = step w c stands in absurd (step-no_end w c s.0 p answer free at is s.1);
}

-- A parser that goes on keeps its points.
pub goes-keeps : (old new : Now) → GoesOn old new → KeepsOn old new
goes-keeps old new g = record {
  input = g.input;
  kept = λ point spot e. rw g.points.kept e;
  onward = g.onward;
  by_calls = g.by_calls;
}
