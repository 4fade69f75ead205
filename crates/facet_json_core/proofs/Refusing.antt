-- How refusals are told, on every input.
use Rattle.std.proofs.Common.{◌≡◌, ◌⊎◌, inl, inr, ◌≤◌, ◌<◌, ◌+◌, ◌-◌, ◌^◌, ℕ, List, None, Some, true, refl, arith}
use Rattle.std.specs.Prelude.{codes, min}
use Rattle.facet_format.specs.Complaint.{Complaint, number_out_of_range, unexpected_eof, Refusal, refusal_at, no_memory}
use Rattle.facet_format.specs.Cursor.{Call, Answer}
use Rattle.facet_format.specs.Event.{Event}
use Rattle.facet_format.specs.Span.{Span}
use Rattle.facet_format.specs.Views.{span_of as span_of_rust}
use Rattle.facet_format.specs.declared.event.Span.{Span as RustSpan}
use Rattle.facet_json_grammar.specs.CallLaws.{refusal_in}
use Rattle.facet_json_grammar.specs.Move.{Moves}
use Rattle.facet_json_grammar.specs.Next.{PassesNext, IsOver}
use Rattle.facet_json_grammar.specs.Now.{Now, ahead, current_span_of, GoesOn}
use Rattle.facet_json_grammar.proofs.RefusalRepeats.{refused-sticks}
use Rattle.facet_json_core.specs.Refusing.{is_own, IsAbout, LacksOrIsAbout, no_value_after, mismatch_of, ComesTo, IsSpanPassed, of_an_event, of_the_last_token, TellsRefusal, as_it_came, at_the_end, of_a_type, without_memory}

-- ---- on the way

pub stays-there : (now : Now) → ComesTo now now
stays-there now = record { onward = omega arith; by_calls = λ first led. led }

pub goes-there : {old new : Now} → GoesOn old new → ComesTo old new
goes-there g = record { onward = g.onward; by_calls = g.by_calls }

pub comes-then : {old now new : Now} → ComesTo old now → ComesTo now new → ComesTo old new
comes-then {old = old} {now = now} {new = new} one two = record {
  onward =
      let near : ahead now ≤ ahead old = one.onward in
      let far : ahead new ≤ ahead now = two.onward in
      omega (arith, near, far);
  by_calls = λ first led. two.by_calls first (one.by_calls first led);
}

-- What is passed later on the way is passed on the way.
pub later-passed : {old now new : Now} {span : Span} → ComesTo old now → IsSpanPassed now new span → IsSpanPassed old new span
later-passed came (of_an_event before after given led passes left is) = of_an_event before after given (comes-then came led) passes left is
later-passed {old = old} {now = now} came (of_the_last_token after led passed left is) =
    let near : ahead now ≤ ahead old = came.onward in
    of_the_last_token after (comes-then came led) (omega (arith, near, passed)) left is

-- An event that is passed at once.
pub event-passed : {old new : Now} {given : Event} → PassesNext old given new → IsSpanPassed old new given.span
event-passed {old = old} {new = new} {given = given} passes = of_an_event old new given (stays-there old) passes (stays-there new) refl

-- The last token after something was passed.
pub last-passed : {old new : Now} → ComesTo old new → ahead new < ahead old → IsSpanPassed old new (current_span_of new)
last-passed {new = new} came passed = of_the_last_token new came passed (stays-there new) refl

-- ---- refusals

-- What is told of a later part of the way is told of the whole.
pub tells-later : {old now new : Now} {r : Refusal} → ComesTo old now → TellsRefusal now new r → TellsRefusal old new r
tells-later came (as_it_came is) = as_it_came is
tells-later came (at_the_end free over is) = at_the_end free over is
tells-later came (of_a_type span free passed so) = of_a_type span free (later-passed came passed) so
tells-later came (without_memory free is) = without_memory free is

-- The parser's refusal of a call is its own.
pub call-tells : (old new : Now) (call : Call) (answer : Answer) (r : Refusal) → Moves old call answer new → refusal_in answer ≡ Some r →
    TellsRefusal old new r
call-tells old new call answer r move refused = as_it_came (refused-sticks old new call answer r move refused)

-- The end, where a value was to come.
pub over-tells : {old new : Now} {r : Refusal} → IsOver old new → r ≡ no_value_after (current_span_of new) → TellsRefusal old new r
over-tells over is = at_the_end over.free over.stays is

pub mismatch-about : {r : Refusal} (expected : List ℕ) (given : Event) → r ≡ mismatch_of expected given → IsAbout given.span r
mismatch-about expected given is = (_, refl, is)

pub range-about : {r : Refusal} (name : List ℕ) (span : Span) → r ≡ refusal_at (number_out_of_range name) span → IsAbout span r
range-about name span is = (_, refl, is)

pub either-about : {r : Refusal} {complaint : Complaint} {expected : List ℕ} (given : Event) →
    (r ≡ refusal_at complaint given.span) ⊎ (r ≡ mismatch_of expected given) → is_own complaint ≡ true → IsAbout given.span r
either-about given (inl is) own = (_, own, is)
either-about {expected = expected} given (inr is) own = mismatch-about expected given is

pub lacks-about : {r : Refusal} {expected : List ℕ} (given : Event) → (r ≡ no_memory) ⊎ (r ≡ mismatch_of expected given) →
    LacksOrIsAbout given.span r
lacks-about given (inl none) = inl none
lacks-about {expected = expected} given (inr is) = inr (mismatch-about expected given is)

-- A refusal of an event that was passed.
pub event-tells : {old new : Now} {given : Event} {r : Refusal} → PassesNext old given new → IsAbout given.span r → TellsRefusal old new r
event-tells passes so = of_a_type _ passes.free (event-passed passes) so

-- A refusal at the last token that was passed, after others.
pub end-tells : {old now new : Now} {r : Refusal} → ComesTo old now → ahead now < ahead old → ComesTo now new → new.cursor.refusal ≡ None →
    IsAbout (current_span_of new) r → TellsRefusal old new r
end-tells {old = old} {now = now} {new = new} came passed goes free so =
    let far : ahead new ≤ ahead now = goes.onward in
    of_a_type _ free (last-passed (comes-then came goes) (omega (arith, passed, far))) so

pub lacks-tells : {old new : Now} {given : Event} {r : Refusal} → PassesNext old given new → LacksOrIsAbout given.span r → TellsRefusal old new r
lacks-tells passes (inl none) = without_memory passes.free none
lacks-tells passes (inr so) = event-tells passes so

-- An empty span at the end of the last token that was read.
pub told-ended : (last : Span) (seen made : RustSpan) (end : ℕ) → span_of_rust seen ≡ last →
    end ≡ min (seen.offset + seen.len) (2 ^ 64 - 1) → made.offset ≡ end → made.len ≡ 0 →
    refusal_at (unexpected_eof (codes "value")) (span_of_rust made) ≡ no_value_after last
told-ended last seen made end same ends offset len = rw (← same, offset, ends, len) refl
