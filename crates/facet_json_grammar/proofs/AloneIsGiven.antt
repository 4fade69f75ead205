-- Reading by the next event alone, on an input that is refused: what the longest prefix gives, and then the refusal.
use Rattle.std.proofs.Common.{◌≡◌, ℕ, Bool, true, false, List, [], ◌∷◌, Some, None, refl, ap, ◌∙◌, subst}
use Rattle.std.specs.Prelude.{Err}
use Rattle.facet_format.specs.Span.{Span, span_at}
use Rattle.facet_json_token.specs.Gap.{Mode}
use Rattle.facet_json_grammar.specs.Language.{Language, lenient}
use Rattle.facet_json_token.specs.Tokens.{Tokens}
use Rattle.facet_json_grammar.specs.Place.{Place}
use Rattle.facet_format.specs.Complaint.{Refusal}
use Rattle.facet_json_grammar.specs.Refusal.{IsStuck}
use Rattle.facet_format.specs.Event.{Passed, takes_memory}
use Rattle.facet_format.specs.Cursor.{Upcoming, Cursor, World, last_seen, current_span, at_spot, unpeeked, Call, next, Answer, event, no_memory_at, Step, repeats, passes, passes_without_memory, passes_the_end, passes_nothing, Run, no_calls, one_call}
use Rattle.facet_json_grammar.specs.Future.{gives, stuck, events_before}
use Rattle.facet_json_grammar.specs.Reader.{Reader, past, future_at}
use Rattle.facet_json_grammar.specs.Now.{Now, fresh, first_of, on_input, RefusedAt}
use Rattle.facet_json_grammar.specs.Move.{MovesAll}
use Rattle.facet_json_grammar.specs.Begun.{RefusesAfter}
use Rattle.facet_json_grammar.specs.Alone.{AllNext, no_call, one_next, AllRefused, no_answer, one_refused, AnswersAlone, not_asked, one_event, refused, wants_memory}
use Rattle.facet_json_grammar.proofs.RefusedHasNone.{refused-comes}
use Rattle.facet_json_grammar.proofs.StuckOnce.{stuck-once}
use Rattle.facet_json_grammar.proofs.PastEvents.{past-comes}

-- Where no event was peeked at, the last token that was read is that of the last event that was passed.
unpeeked-last : (peeked : Bool) (comes : Upcoming) (last : Span) → peeked ≡ false → last_seen peeked comes last ≡ last
unpeeked-last true comes last e = cc
unpeeked-last false comes last e = refl

module _ {P : Type 0} (w : World P) where
  -- A refused cursor that is asked for the next event repeats its refusal, and is refused afterwards.
  next-refused : (c : Cursor P) {between : Cursor P} {answer : Answer} (r : Refusal) → c.refusal ≡ Some r →
      Step w c next answer between → (answer ≡ event (Err r)) × (between.refusal ≡ Some r)
  next-refused c r f (repeats q call answer e a) =
      let same : q ≡ r = cc in
      (cc, f)
  next-refused c r f (passes p none comes) = cc
  next-refused c r f (passes_without_memory p none comes takes off) = cc
  next-refused c r f (passes_the_end none comes) = cc
  next-refused c r f (passes_nothing q none comes may) = cc

  -- So it answers its refusal again and again.
  all-refused : {c d : Cursor P} {calls : List Call} {answers : List Answer} (r : Refusal) → c.refusal ≡ Some r → AllNext calls →
      Run w c calls answers d → AllRefused r answers
  all-refused r f no_call (no_calls c) = no_answer
  all-refused r f (one_next calls only) (one_call c between last call answer _ answers step more) =
      let both = next-refused c r f step in
      let same = both.0 in
      rw same (one_refused answers (all-refused {c = between} r both.1 only more))

module _ (buffer : List ℕ) (language : Language) (refusal : Refusal) (here : Place) (rest : Tokens)
    (only_so : (r : Refusal) → IsStuck buffer here rest r → r ≡ refusal) where
  -- These events come at the cursor's place, which is after this last token, and then no document goes on.
  pub record ComesAlone (c : Cursor Reader) (last : Span) (events : List Passed) : Type 0 where
    pub free : c.refusal ≡ None
    pub last_is : c.spot.place.last ≡ last
    pub comes : future_at buffer language c.spot.place ≡ events_before events (stuck here rest)

  -- The first answer, and the others.
  step_alone : (c : Cursor Reader) (last : Span) (events : List Passed) (answers : List Answer) {between d : Cursor Reader}
      {answer : Answer} {calls : List Call} → ComesAlone c last events → AllNext calls →
      Step (on_input buffer language) c next answer between → Run (on_input buffer language) between calls answers d →
      ((p : Passed) (others : List Passed) → events ≡ p ∷ others → ComesAlone between p.last others →
      AnswersAlone refusal p.last others answers) → AnswersAlone refusal last events (answer ∷ answers)
  step_alone c last events answers at only (repeats r call answer e a) more go = let free = at.free in cc
  step_alone c last [] answers at only (passes p none comes) more go =
      let first = ap first_of at.comes in cc
  step_alone c last (q ∷ events) answers at only (passes p none comes) more go =
      let first = ap first_of at.comes in
      let same : q ≡ p = cc in
      let left = events_before events (stuck here rest) in
      let behind = past-comes buffer language c.spot.place p left (at.comes ∙ ap (λ x. gives x left) same) in
      let there : ComesAlone (at_spot c (unpeeked (past p c.spot.place))) p.last events =
      record { free = none; last_is = refl; comes = behind } in
      rw same (one_event last p events answers (go p events (ap (λ x. x ∷ events) same) there))
  step_alone c last [] answers at only (passes_without_memory p none comes takes off) more go =
      let first = ap first_of at.comes in cc
  step_alone c last (q ∷ events) answers at only (passes_without_memory p none comes takes off) more go =
      let first = ap first_of at.comes in
      let same : q ≡ p = cc in
      let current : current_span (on_input buffer language) c.spot ≡ last =
      unpeeked-last c.spot.peeked _ c.spot.place.last off ∙ at.last_is in
      let allocates : takes_memory q.event.kind ≡ true = rw same takes in
      let others = all-refused (on_input buffer language) (no_memory_at last) (ap (λ x. Some (no_memory_at x)) current) only more in
      rw current (wants_memory last q events (event (Err (no_memory_at last)) ∷ answers) allocates (one_refused answers others))
  step_alone c last [] answers at only (passes_the_end none comes) more go =
      let first = ap first_of at.comes in cc
  step_alone c last (q ∷ events) answers at only (passes_the_end none comes) more go =
      let first = ap first_of at.comes in cc
  step_alone c last [] answers at only (passes_nothing r none comes stops) more go =
      let there : RefusedAt buffer (stuck here rest) r = subst (λ f. RefusedAt buffer f r) at.comes stops in
      let same = only_so r there in
      let others = all-refused (on_input buffer language) refusal (ap (λ x. Some x) same) only more in
      rw same (refused last (event (Err refusal) ∷ answers) (one_refused answers others))
  step_alone c last (q ∷ events) answers at only (passes_nothing r none comes stops) more go =
      let first = ap first_of at.comes in cc

  -- What comes is answered event by event, and then the refusal.
  pub answers-alone : (last : Span) (events : List Passed) {c d : Cursor Reader} {calls : List Call} {answers : List Answer} →
      ComesAlone c last events → AllNext calls → Run (on_input buffer language) c calls answers d →
      AnswersAlone refusal last events answers
  answers-alone last events at no_call (no_calls c) = not_asked last events
  answers-alone last events at (one_next calls only) (one_call c between d call answer _ answers step more) =
      step_alone c last events answers at only step more (λ p others same there. answers-alone p.last others there only more)

-- Where the input is refused after these events, they are answered, and then that refusal.
pub prefix-alone : (buffer : List ℕ) (mode : Mode) {events : List Passed} {refusal : Refusal} {new : Now} {calls : List Call}
    {answers : List Answer} → RefusesAfter buffer mode events refusal → AllNext calls →
    MovesAll (fresh buffer mode) calls answers new → AnswersAlone refusal (span_at 0 0) events answers
prefix-alone buffer mode {events = events} {refusal = refusal} r only moves =
    answers-alone buffer (lenient mode) refusal r.here r.rest (λ other stops. stuck-once buffer r.here r.rest other refusal stops r.stuck)
    (span_at 0 0) events (record { free = refl; last_is = refl; comes = refused-comes r }) only moves.run
