-- On every input: what a parser keeps and what it answers lie within the input.
use Rattle.std.proofs.Common.{◌≡◌, ℕ, zero, suc, ◌<◌, ◌≤◌, List, [], length, Some, refl, subst, arith}
use Rattle.std.specs.Prelude.{Ok, Err, IfSome}
use Rattle.std.proofs.lemmas.List.Elements.{All-nil}
use Rattle.facet_format.specs.Span.{stop}
use Rattle.facet_format.specs.Complaint.{Refusal}
use Rattle.facet_format.specs.Event.{Event, Passed}
use Rattle.facet_format.specs.Kept.{found}
use Rattle.facet_format.specs.Part.{Part, skip_of, capture_of}
use Rattle.facet_format.specs.Cursor.{Call, next, peek, events, skip, capture, save, restore, span, Answer, event, batch, skipped, raw, saved, Spot, Cursor, Comes, repeats, passes, passes_without_memory, passes_the_end, passes_nothing, peeks, peeks_without_memory, peeks_at_the_end, peeks_at_nothing, gives_none, gives, gives_up, gives_without_memory, skips, skips_without_memory, skips_nothing, captures, captures_without_memory, captures_nothing, saves, saves_at_the_limit, saves_without_memory, restores, restores_nothing, tells, repeated, an_event, at_spot, refused_at, kept_here, back_at, current_span, spot_after, unpeeked}
use Rattle.facet_json_token.specs.Gap.{Mode}
use Rattle.facet_json_grammar.specs.Language.{Language, lenient}
use Rattle.facet_json_grammar.specs.Reader.{Reader, future_at}
use Rattle.facet_json_grammar.specs.Unread.{PartAt}
use Rattle.facet_json_grammar.proofs.PastEvents.{comes-within}
use Rattle.facet_json_grammar.proofs.Parts.PartsWithin.{parts_within}
use Rattle.facet_json_grammar.specs.Now.{Now, fresh, fresh_in, on_input, first_of, RefusedAt}
use Rattle.facet_json_grammar.specs.Move.{Moves}
use Rattle.facet_json_grammar.specs.Within.{ReaderWithin, NowWithin, no_events, AnswerWithin}
use Rattle.facet_json_grammar.specs.UnreadLaws.{RefusalWithin}
use Rattle.facet_json_grammar.proofs.PointsHold.{found-holds, without-holds, with_point-holds}
use Rattle.facet_json_grammar.proofs.MoveLaws.{with_cursor, StepOf, by_step}
use Rattle.facet_json_grammar.proofs.MovesNext.{event-comes}
use Rattle.facet_json_grammar.proofs.Spans.EventsWithin.{refused-within, span-within, given-within, spot_after-within}

-- All that a new parser keeps lies within its input.
pub fresh-within-in : (buffer : List ℕ) (language : Language) → NowWithin (fresh_in buffer language)
fresh-within-in buffer language = record {
  reader = omega arith;
  kept = All-nil (λ point. ReaderWithin buffer point.1.place);
  refusal = tt;
}

pub fresh-within : (buffer : List ℕ) (mode : Mode) → NowWithin (fresh buffer mode)
fresh-within buffer mode = fresh-within-in buffer (lenient mode)

-- What a move leaves: a parser that keeps what lies within the input, and an answer within it.
pub record MovedWithin (new : Now) (answer : Answer) : Type 0 where
  pub parser : NowWithin new
  pub within : AnswerWithin new.buffer answer

module _ (now : Now) (good : NowWithin now) where
  -- ---- the parser afterwards

  -- at another spot
  pub settled-within : (spot : Spot Reader) → ReaderWithin now.buffer spot.place →
      NowWithin (with_cursor now (at_spot now.cursor spot))
  settled-within spot w = record { reader = w; kept = good.kept; refusal = good.refusal }

  -- at another spot, and refused
  pub refused_at-within : (spot : Spot Reader) (r : Refusal) → ReaderWithin now.buffer spot.place → RefusalWithin now.buffer r →
      NowWithin (with_cursor now (refused_at now.cursor spot r))
  refused_at-within spot r w said = record { reader = w; kept = good.kept; refusal = said }

  -- with one more point
  pub kept-within : NowWithin (with_cursor now (kept_here now.cursor))
  kept-within = record {
    reader = good.reader;
    kept = with_point-holds (λ spot. ReaderWithin now.buffer spot.place) (suc now.cursor.counter) now.cursor.spot now.cursor.kept
        good.kept good.reader;
    refusal = good.refusal;
  }

  -- back at the spot of a point
  pub back-within : (point : ℕ) (spot : Spot Reader) → found point now.cursor.kept ≡ Some spot →
      NowWithin (with_cursor now (back_at now.cursor point spot))
  back-within point spot e = record {
    reader = found-holds (λ spot. ReaderWithin now.buffer spot.place) point spot now.cursor.kept good.kept e;
    kept = without-holds (λ spot. ReaderWithin now.buffer spot.place) point now.cursor.kept good.kept;
    refusal = tt;
  }

  -- ---- answers

  -- The current span lies within the input.
  pub current-within : stop (current_span (on_input now.buffer now.language) now.cursor.spot) ≤ length now.buffer
  current-within = span-within now.buffer now.language now.cursor.spot good.reader

  refusal_within : (r : Refusal) → now.cursor.refusal ≡ Some r → RefusalWithin now.buffer r
  refusal_within r e = subst (λ o. IfSome o (RefusalWithin now.buffer)) e good.refusal

  repeated_within : (r : Refusal) (call : Call) (answer : Answer) → repeated r call ≡ Some answer → RefusalWithin now.buffer r →
      AnswerWithin now.buffer answer
  repeated_within r next answer e w = let same : event (Err r) ≡ answer = cc in subst (AnswerWithin now.buffer) same w
  repeated_within r peek answer e w = let same : event (Err r) ≡ answer = cc in subst (AnswerWithin now.buffer) same w
  repeated_within r (events zero) answer e w = cc
  repeated_within r (events (suc k)) answer e w =
      let same : batch [] (Err r) ≡ answer = cc in subst (AnswerWithin now.buffer) same (no_events, w)
  repeated_within r skip answer e w = let same : skipped (Err r) ≡ answer = cc in subst (AnswerWithin now.buffer) same w
  repeated_within r capture answer e w = let same : raw (Err r) ≡ answer = cc in subst (AnswerWithin now.buffer) same w
  repeated_within r save answer e w = let same : saved (Err r) ≡ answer = cc in subst (AnswerWithin now.buffer) same w
  repeated_within r (restore point) answer e w = cc
  repeated_within r span answer e w = cc

  stops_within : (r : Refusal) → RefusedAt now.buffer (future_at now.buffer now.language now.cursor.spot.place) r →
      RefusalWithin now.buffer r
  stops_within r so = refused-within now.buffer now.language now.cursor.spot.place r good.reader so

  -- ---- parts

  abbrev here : Reader
  here = now.cursor.spot.place

  -- The place after a skip lies further on, and within the input.
  pub skip-behind : (part : Part Reader) (place : Reader) → PartAt now.buffer now.language here part → skip_of part ≡ Ok place →
      (stop here.last < stop place.last) × ReaderWithin now.buffer place
  skip-behind part place stands is = (parts_within now.buffer now.language here part good.reader stands).skip place is

  -- So does the place after a capture.
  pub capture-behind : (part : Part Reader) (text : List ℕ) (place : Reader) → PartAt now.buffer now.language here part →
      capture_of now.buffer part ≡ Ok (text, place) → (stop here.last < stop place.last) × ReaderWithin now.buffer place
  capture-behind part text place stands is = (parts_within now.buffer now.language here part good.reader stands).capture text place is

  -- ---- steps

  unchanged : (answer : Answer) → AnswerWithin now.buffer answer → MovedWithin now answer
  unchanged answer w = record { parser = good; within = w }

  refused_here : (r : Refusal) (answer : Answer) → RefusalWithin now.buffer r → AnswerWithin now.buffer answer →
      MovedWithin (with_cursor now (refused_at now.cursor now.cursor.spot r)) answer
  refused_here r answer w inside = record { parser = refused_at-within now.cursor.spot r good.reader w; within = inside }

  passed_here : (place : Reader) (answer : Answer) → ReaderWithin now.buffer place → AnswerWithin now.buffer answer →
      MovedWithin (with_cursor now (at_spot now.cursor (unpeeked place))) answer
  passed_here place answer w inside = record { parser = settled-within (unpeeked place) w; within = inside }

  -- An event that comes, and the place after it.
  event_comes : (p : Passed) → first_of (future_at now.buffer now.language now.cursor.spot.place) ≡ an_event p →
      (stop p.event.span ≤ length now.buffer) × (stop p.last ≤ length now.buffer)
  event_comes p e =
      let (behind, inside, ends) = comes-within now.buffer now.language now.cursor.spot.place p _ good.reader
      (event-comes now.buffer now.language now.cursor.spot.place p e) in
      (omega (arith, inside, ends), ends)

  batch_refused : (given : List Event) (spot : Spot Reader) (r : Refusal) (after : Reader) →
      Comes (on_input now.buffer now.language) now.cursor.spot.place given after → spot ≡ spot_after given after now.cursor.spot →
      RefusalWithin now.buffer r → MovedWithin (with_cursor now (refused_at now.cursor spot r)) (batch given (Err r))
  batch_refused given spot r after all there w =
      let here = spot_after-within now.buffer now.language now.cursor.spot all good.reader in
      record {
        parser = refused_at-within spot r (rw there here) w;
        within = ((given-within now.buffer now.language all good.reader).events, w);
      }

  step_within : {call : Call} {answer : Answer} (d : Cursor Reader) → StepOf now call answer d →
      MovedWithin (with_cursor now d) answer
  step_within d (repeats r call answer e a) = unchanged answer (repeated_within r call answer a (refusal_within r e))
  step_within d (passes p none comes) =
      let (inside, ends) = event_comes p comes in record { parser = settled-within _ ends; within = inside }
  step_within d (passes_without_memory p none comes takes off) = refused_here _ _ current-within current-within
  step_within d (passes_the_end none e) = unchanged _ tt
  step_within d (passes_nothing r none e so) = refused_here r _ (stops_within r so) (stops_within r so)
  step_within d (peeks p none comes) =
      let (inside, ends) = event_comes p comes in record { parser = settled-within _ good.reader; within = inside }
  step_within d (peeks_without_memory p none comes takes) = refused_here _ _ current-within current-within
  step_within d (peeks_at_the_end none e) = unchanged _ tt
  step_within d (peeks_at_nothing r none e so) = refused_here r _ (stops_within r so) (stops_within r so)
  step_within d gives_none = unchanged _ (no_events, tt)
  step_within d (gives k n given after none all count le over) = record {
    parser = settled-within _ (spot_after-within now.buffer now.language now.cursor.spot all good.reader);
    within = ((given-within now.buffer now.language all good.reader).events, tt);
  }
  step_within d (gives_without_memory k given after p spot none all le more there) =
      let here = spot_after-within now.buffer now.language now.cursor.spot all good.reader in
      batch_refused given spot _ after all there (span-within now.buffer now.language spot (rw there here))
  step_within d (gives_up k given after r none all le stops so) =
      let w = (given-within now.buffer now.language all good.reader).stands in
      batch_refused given _ r after all refl (refused-within now.buffer now.language after r w so)
  step_within d (skips part place none stands is) = passed_here place _ (skip-behind part place stands is).1 tt
  step_within d (skips_without_memory part none stands opens) = refused_here _ _ current-within current-within
  step_within d (skips_nothing part r none stands is) =
      let w = (parts_within now.buffer now.language here part good.reader stands).no_skip r is in refused_here r _ w w
  step_within d (captures part text place none stands is) = passed_here place _ (capture-behind part text place stands is).1 tt
  step_within d (captures_without_memory part none stands opens) = refused_here _ _ current-within current-within
  step_within d (captures_nothing part r none stands is) =
      let w = (parts_within now.buffer now.language here part good.reader stands).no_capture r is in refused_here r _ w w
  step_within d (saves none h) = record { parser = kept-within; within = tt }
  step_within d (saves_at_the_limit none e) = unchanged _ current-within
  step_within d (saves_without_memory none h) = unchanged _ current-within
  step_within d (restores point spot e) = record { parser = back-within point spot e; within = tt }
  step_within d (restores_nothing point e) = unchanged _ tt
  step_within d tells = unchanged _ current-within

  -- Each move leaves such a parser, and answers spans within the input.
  pub moves-within : (new : Now) {call : Call} {answer : Answer} → Moves now call answer new → MovedWithin new answer
  moves-within new {answer = answer} move = by_step (λ x. MovedWithin x answer) now new move (λ d step. step_within d step)
