-- On every input: no call but a restore goes back, and each event that is passed leaves fewer bytes ahead.
use Rattle.std.proofs.Common.{◌≡◌, ℕ, zero, suc, ◌+◌, ◌<◌, ◌≤◌, true, List, length, Some, refl, arith}
use Rattle.std.specs.Prelude.{Ok}
use Rattle.facet_format.specs.Span.{stop}
use Rattle.facet_format.specs.Event.{Event, Passed}
use Rattle.facet_format.specs.Cursor.{Call, next, events, skip, capture, restore, Answer, event, batch, skipped, raw, Cursor, Comes, repeats, passes, gives_none, gives, gives_up, gives_without_memory, skips, captures, restores, an_event, spot_after}
use Rattle.facet_json_grammar.specs.Reader.{Reader, future_at}
use Rattle.facet_json_grammar.proofs.PastEvents.{comes-within}
use Rattle.facet_json_grammar.specs.Now.{Now, on_input, first_of, ahead, GoesOn}
use Rattle.facet_json_grammar.proofs.CallsLead.{one-leads}
use Rattle.facet_json_grammar.specs.Move.{Moves}
use Rattle.facet_json_grammar.specs.Within.{NowWithin}
use Rattle.facet_json_grammar.proofs.StepLaws.{leaves_points}
use Rattle.facet_json_grammar.proofs.MoveLaws.{with_cursor, StepOf, by_step, moves-points}
use Rattle.facet_json_grammar.proofs.MovesNext.{event-comes, spot_after-place}
use Rattle.facet_json_grammar.proofs.Spans.AnswersWithin.{skip-behind, capture-behind}
use Rattle.facet_json_grammar.proofs.Spans.EventsWithin.{given-within}

module _ (now : Now) (good : NowWithin now) where
  event_behind : (p : Passed) → first_of (future_at now.buffer now.language now.cursor.spot.place) ≡ an_event p →
      (stop now.cursor.spot.place.last < stop p.last) × (stop p.last ≤ length now.buffer)
  event_behind p e =
      let (behind, inside, ends) = comes-within now.buffer now.language now.cursor.spot.place p _ good.reader
      (event-comes now.buffer now.language now.cursor.spot.place p e) in
      (behind, ends)

  -- So many events are so many bytes further on.
  batch_behind : (given : List Event) (after : Reader) → Comes (on_input now.buffer now.language) now.cursor.spot.place given after →
      (length given + stop now.cursor.spot.place.last ≤ stop (spot_after given after now.cursor.spot).place.last)
      × (stop (spot_after given after now.cursor.spot).place.last ≤ length now.buffer)
  batch_behind given after all =
      let there = given-within now.buffer now.language all good.reader in
      rw (spot_after-place now.buffer now.language now.cursor.spot all) (there.further, there.stands)

  step_onward : {call : Call} {answer : Answer} (d : Cursor Reader) → StepOf now call answer d →
      ((point : ℕ) → call ≡ restore point → ⊥) → stop now.cursor.spot.place.last ≤ stop d.spot.place.last
  step_onward d (passes p none comes) other = omega (arith, (event_behind p comes).0)
  step_onward d (gives k n given after none all count le over) other = omega (arith, (batch_behind given after all).0)
  step_onward d (gives_without_memory k given after p spot none all le more there) other =
      rw there (omega (arith, (batch_behind given after all).0))
  step_onward d (gives_up k given after r none all le stops so) other = omega (arith, (batch_behind given after all).0)
  step_onward d (skips part place none stands is) other = omega (arith, (skip-behind now good part place stands is).0)
  step_onward d (captures part text place none stands is) other =
      omega (arith, (capture-behind now good part text place stands is).0)
  step_onward d (restores point spot e) other = absurd (other point refl)
  step_onward d _ other = omega arith

  -- No move but a restore goes back.
  pub moves-onward : (new : Now) {call : Call} {answer : Answer} → Moves now call answer new →
      ((point : ℕ) → call ≡ restore point → ⊥) → ahead new ≤ ahead now
  moves-onward new move other =
      by_step (λ x. ahead x ≤ ahead now) now new move (λ d step. omega (arith, step_onward d step other))

  restores_none : (call : Call) (point : ℕ) → leaves_points call ≡ true → call ≡ restore point → ⊥
  restores_none call point e f = cc

  -- A call that leaves the points leaves the input and doesn't go back.
  pub moves-goes_on : (new : Now) {call : Call} {answer : Answer} → leaves_points call ≡ true → Moves now call answer new →
      GoesOn now new
  moves-goes_on new {call = call} leaves move = record {
    input = move.input;
    points = moves-points now new move leaves;
    onward = moves-onward new move (λ point e. restores_none call point leaves e);
    by_calls = one-leads now new move;
  }

  next_lowers : (d : Cursor Reader) (e : Event) (answer : Answer) → answer ≡ event (Ok (Some e)) →
      StepOf now next answer d → ahead (with_cursor now d) < ahead now
  next_lowers d e answer a (passes p none comes) = omega (arith, (event_behind p comes).0, (event_behind p comes).1)
  next_lowers d e answer a (repeats r call _ f g) = cc
  next_lowers d e answer a _ = cc

  -- Each event that is passed leaves fewer bytes ahead.
  pub next-lowers : (new : Now) (e : Event) → Moves now next (event (Ok (Some e))) new → ahead new < ahead now
  next-lowers new e move = by_step (λ x. ahead x < ahead now) now new move (λ d step. next_lowers d e _ refl step)

  events_lower : (d : Cursor Reader) (limit n : ℕ) (given : List Event) (answer : Answer) → answer ≡ batch given (Ok n) →
      StepOf now (events limit) answer d → ahead (with_cursor now d) + n ≤ ahead now
  events_lower d zero n given answer a (repeats r call _ f g) = cc
  events_lower d (suc k) n given answer a (repeats r call _ f g) = cc
  events_lower d limit n given answer a gives_none = let none : n ≡ 0 = cc in omega (arith, none)
  events_lower d limit n given answer a (gives k m others after none all count le over) =
      let same : m ≡ n = cc in
      let (further, ends) = batch_behind others after all in
      omega (arith, same, count, further, ends)
  events_lower d limit n given answer a (gives_without_memory k others after p spot none all le more there) = cc
  events_lower d limit n given answer a (gives_up k others after r none all le stops so) = cc

  -- So many events leave so many bytes less ahead.
  pub events-lower : (new : Now) (limit n : ℕ) (given : List Event) → Moves now (events limit) (batch given (Ok n)) new →
      ahead new + n ≤ ahead now
  events-lower new limit n given move =
      by_step (λ x. ahead x + n ≤ ahead now) now new move (λ d step. events_lower d limit n given _ refl step)

  skip_lowers : (d : Cursor Reader) (answer : Answer) → answer ≡ skipped (Ok tt) → StepOf now skip answer d →
      ahead (with_cursor now d) < ahead now
  skip_lowers d answer a (skips part place none stands is) =
      let (further, ends) = skip-behind now good part place stands is in omega (arith, further, ends)
  skip_lowers d answer a (repeats r call _ f g) = cc
  skip_lowers d answer a _ = cc

  -- A skip leaves fewer bytes ahead.
  pub skip-lowers : (new : Now) → Moves now skip (skipped (Ok tt)) new → ahead new < ahead now
  skip-lowers new move = by_step (λ x. ahead x < ahead now) now new move (λ d step. skip_lowers d _ refl step)

  capture_lowers : (d : Cursor Reader) (text : List ℕ) (answer : Answer) → answer ≡ raw (Ok (Some text)) →
      StepOf now capture answer d → ahead (with_cursor now d) < ahead now
  capture_lowers d text answer a (captures part other place none stands is) =
      let (further, ends) = capture-behind now good part other place stands is in omega (arith, further, ends)
  capture_lowers d text answer a (repeats r call _ f g) = cc
  capture_lowers d text answer a _ = cc

  -- A capture leaves fewer bytes ahead.
  pub capture-lowers : (new : Now) (text : List ℕ) → Moves now capture (raw (Ok (Some text))) new → ahead new < ahead now
  capture-lowers new text move = by_step (λ x. ahead x < ahead now) now new move (λ d step. capture_lowers d text _ refl step)
