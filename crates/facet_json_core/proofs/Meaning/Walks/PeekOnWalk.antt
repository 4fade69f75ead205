-- What the parser's answer for a peek says where it stands on a walk.
use Rattle.std.proofs.Common.{◌≡◌, ℕ, Bool, None, Some, Ok, Err, sym, ap, ◌∙◌}
use Rattle.std.specs.Prelude.{slice_get}
use Rattle.facet_format.specs.Complaint.{Refusal}
use Rattle.facet_format.specs.Event.{Event, EventKind, Passed}
use Rattle.facet_format.specs.Cursor.{Cursor, on_walk, event_or_end, an_event, the_end, current_span, no_memory_at, peek, Answer, event, Step, repeats, peeks, peeks_without_memory, peeks_at_the_end, peeks_at_nothing}
use Rattle.facet_format.specs.Part.{Source}
use Rattle.facet_format.specs.Steps.{IsStep}
use Rattle.facet_json_grammar.specs.Now.{Now, StandsAt}
use Rattle.facet_json_core.specs.Reading.{LacksMemory}
use Rattle.facet_json_core.specs.Meaning.Passing.{LacksAlone}
use Rattle.facet_json_core.specs.Meaning.Peeking.{Shows, Finds}

step-shows : (is : EventKind → Bool) (w : Source) (c d : Cursor ℕ) (p : Passed) (shown : Event) (new : Now) (answer : Answer) → c.refusal ≡ None →
    slice_get w.events c.spot.place ≡ Some p → answer ≡ event (Ok (Some shown)) → Step (on_walk w) c peek answer d → StandsAt new w d →
    Shows is w c p (is shown.kind) new
step-shows is w c d p shown new answer free at a (repeats s call _ f g) stands = cc
step-shows is w c d p shown new answer free at a (peeks q none up) stands =
    let both : an_event p ≡ an_event q = sym (ap event_or_end at) ∙ up in
    let same : p.event ≡ shown = cc in
    record { shown = ap (λ (x : Event). is x.kind) same; stands = stands }
step-shows is w c d p shown new answer free at a (peeks_without_memory q none up takes) stands = cc
step-shows is w c d p shown new answer free at a (peeks_at_the_end none up) stands = cc
step-shows is w c d p shown new answer free at a (peeks_at_nothing q none up so) stands = cc

-- The event that is answered is the next one.
pub peek-finds : (is : EventKind → Bool) (old new : Now) (shown : Event) (found : Bool) (answer : Answer) → is shown.kind ≡ found →
    answer ≡ event (Ok (Some shown)) → IsStep StandsAt old peek answer new → Finds is old found new
peek-finds is old new shown found answer so a step w c p stands free at =
    let s = step w c stands in
    let shows = step-shows is w c s.0 p shown new answer free at a s.1 s.2 in
    record { shown = shows.shown ∙ so; stands = shows.stands }

step-lacks : (w : Source) (c d : Cursor ℕ) (p : Passed) (r : Refusal) (answer : Answer) → c.refusal ≡ None →
    slice_get w.events c.spot.place ≡ Some p → answer ≡ event (Err r) → Step (on_walk w) c peek answer d → LacksMemory r
step-lacks w c d p r answer free at is (repeats s call _ f a) = cc
step-lacks w c d p r answer free at is (peeks q none up) = cc
step-lacks w c d p r answer free at is (peeks_without_memory q none up takes) =
    let same : no_memory_at (current_span (on_walk w) c.spot) ≡ r = cc in
    ap (λ (x : Refusal). x.complaint) (sym same)
step-lacks w c d p r answer free at is (peeks_at_the_end none up) = cc
step-lacks w c d p r answer free at is (peeks_at_nothing q none up so) = absurd so

-- Before an event of the walk, a refusal is out of memory.
pub peek-lacks : (old new : Now) (r : Refusal) (answer : Answer) → answer ≡ event (Err r) →
    IsStep StandsAt old peek answer new → LacksAlone old r
peek-lacks old new r answer is step = record {
  lacks = λ w c p stands free at. let s = step w c stands in step-lacks w c s.0 p r answer free at is s.1;
}

-- Where an event comes, a peek doesn't answer the end.
pub step-no_end : (w : Source) (c d : Cursor ℕ) (p : Passed) (answer : Answer) → c.refusal ≡ None →
    slice_get w.events c.spot.place ≡ Some p → answer ≡ event (Ok None) → Step (on_walk w) c peek answer d → ⊥
step-no_end w c d p answer free at is (repeats s call _ f a) = cc
step-no_end w c d p answer free at is (peeks q none up) = cc
step-no_end w c d p answer free at is (peeks_without_memory q none up takes) = cc
step-no_end w c d p answer free at is (peeks_at_the_end none up) =
    let there : an_event p ≡ the_end = sym (ap event_or_end at) ∙ up in cc
step-no_end w c d p answer free at is (peeks_at_nothing q none up so) = cc

-- Before an event of the walk, the end is not answered.
pub peek-no_end : (is : EventKind → Bool) (old new : Now) (found : Bool) (answer : Answer) → answer ≡ event (Ok None) →
    IsStep StandsAt old peek answer new → Finds is old found new
peek-no_end is old new found answer a step w c p stands free at =
    let s = step w c stands in absurd (step-no_end w c s.0 p answer free at a s.1)
