-- Events that are passed one after another, up to the end or a refusal.
use Rattle.std.proofs.Common.{◌≡◌, ◌≤◌, ◌⊎◌, inl, inr, Bool, true, false, List, [], ◌∷◌, ◌++◌, Option, None, Some, refl, sym, ap, ◌∙◌, subst, arith}
use Rattle.std.specs.Prelude.{Ok, Err}
use Rattle.facet_format.specs.Complaint.{Refusal}
use Rattle.facet_format.specs.Event.{Event, Passed}
use Rattle.facet_format.specs.Span.{Span}
use Rattle.facet_format.specs.Cursor.{next, Answer, event, Cursor, current_span, no_memory_at, repeats, passes, passes_without_memory, passes_the_end, passes_nothing}
use Rattle.facet_json_grammar.specs.Future.{Future, gives, finished, stuck, events_before}
use Rattle.facet_json_token.specs.Tokens.{Tokens}
use Rattle.facet_json_grammar.specs.Place.{Place}
use Rattle.facet_json_grammar.specs.Reader.{Reader}
use Rattle.facet_json_grammar.specs.Refusal.{IsStuck}
use Rattle.facet_json_grammar.specs.Now.{Now, RefusedAt, on_input, future_of, current_span_of, ahead}
use Rattle.facet_json_grammar.specs.Move.{Moves}
use Rattle.facet_json_grammar.proofs.MoveLaws.{with_cursor, StepOf, by_step}
use Rattle.facet_json_grammar.proofs.MovesNext.{event-comes, end-comes, next-passes, next-over}
use Rattle.facet_json_grammar.proofs.WalkComes.{events_before-append}
use Rattle.facet_json_parser.specs.Inner.Wanted.{PassesMore, none_passed, one_passed, none_taken}
use Rattle.facet_json_core.specs.Reading.{LacksMemory}
use Rattle.facet_json_document.specs.Formatted.{GetsStuck}
use Rattle.facet_json_document.specs.Inner.Checking.{last_after, PassesSome, PassesUp, Told}

-- ---- lists of events

pub last-append : (last : Span) (a : List Passed) (p : Passed) → last_after last (a ++ p ∷ []) ≡ p.last
last-append last [] p = refl
last-append last (q ∷ a) p = last-append q.last a p

-- ---- one call

-- An event was passed.
record PassesTo (old new : Now) : Type 0 where
  given : Passed
  comes : future_of old ≡ gives given (future_of new)
  ends : new.cursor.spot.place.last ≡ given.last
  unpeeked : new.cursor.spot.peeked ≡ false

next_to : (now : Now) (e : Event) (d : Cursor Reader) (answer : Answer) → answer ≡ event (Ok (Some e)) → StepOf now next answer d → PassesTo now (with_cursor now d)
next_to now e d answer is (repeats r call a f g) = cc
next_to now e d answer is (passes p none goes) =
    record { given = p; comes = event-comes now.buffer now.language now.cursor.spot.place p goes; ends = refl; unpeeked = refl }
next_to now e d answer is _ = cc

next-to : (old new : Now) (e : Event) → Moves old next (event (Ok (Some e))) new → PassesTo old new
next-to old new e move = by_step (PassesTo old) old new move (λ d step. next_to old e d _ refl step)

-- The end was told, and nothing changes.
record StaysAtEnd (old new : Now) : Type 0 where
  over : future_of old ≡ finished
  stays : new.cursor.spot ≡ old.cursor.spot
  buffer : new.buffer ≡ old.buffer

end_stays : (now : Now) (d : Cursor Reader) (answer : Answer) → answer ≡ event (Ok None) → StepOf now next answer d → StaysAtEnd now (with_cursor now d)
end_stays now d answer is (repeats r call a f g) = cc
end_stays now d answer is (passes_the_end none f) =
    record { over = end-comes now.buffer now.language now.cursor.spot.place f; stays = refl; buffer = refl }
end_stays now d answer is _ = cc

end-stays : (old new : Now) → Moves old next (event (Ok None)) new → StaysAtEnd old new
end-stays old new move = by_step (StaysAtEnd old) old new move (λ d step. end_stays old d _ refl step)

-- Nothing goes on with what comes next, and it is refused so.
pub record StopsHere (now : Now) (refusal : Refusal) : Type 0 where
  pub place : Place
  pub rest : Tokens
  pub comes : future_of now ≡ stuck place rest
  pub so : IsStuck now.buffer place rest refusal

stops_there : (now : Now) (r : Refusal) (future : Future) → future_of now ≡ future → RefusedAt now.buffer future r → StopsHere now r
stops_there now r (gives p future) e so = absurd so
stops_there now r finished e so = absurd so
stops_there now r (stuck place rest) e so = record { place = place; rest = rest; comes = e; so = so }

refused_step : (now : Now) (d : Cursor Reader) (r : Refusal) (answer : Answer) → now.cursor.refusal ≡ None → answer ≡ event (Err r) →
    StepOf now next answer d → LacksMemory r ⊎ StopsHere now r
refused_step now d r answer free is (repeats s call _ f a) = cc
refused_step now d r answer free is (passes_without_memory p none up takes off) =
    let same : no_memory_at (current_span (on_input now.buffer now.language) now.cursor.spot) ≡ r = cc in
    inl (ap (λ (x : Refusal). x.complaint) (sym same))
refused_step now d r answer free is (passes_nothing q none up so) =
    let same : q ≡ r = cc in
    inr (rw (← same) (stops_there now q (future_of now) refl so))
refused_step now d r answer free is _ = cc

pub refused-next : (old new : Now) (r : Refusal) → old.cursor.refusal ≡ None → Moves old next (event (Err r)) new → LacksMemory r ⊎ StopsHere old r
refused-next old new r free move = refused_step old new.cursor r _ free refl move.step

-- ---- all calls

-- One event more.
pub some-more : (old now new : Now) (e : Event) → PassesSome old now → Moves now next (event (Ok (Some e))) new → PassesSome old new
some-more old now new e some move =
    let one = next-to now new e move in
    record {
      events = some.events ++ one.given ∷ [];
      comes =
          some.comes ∙ ap (events_before some.events) one.comes
          ∙ sym (events_before-append some.events (one.given ∷ []) (future_of new));
      ends = one.ends ∙ sym (last-append old.cursor.spot.place.last some.events one.given);
      unpeeked = one.unpeeked;
    }

-- None, and then those that are passed one after another.
no-events : (now : Now) → now.cursor.spot.peeked ≡ false → PassesSome now now
no-events now unpeeked = record { events = []; comes = refl; ends = refl; unpeeked = unpeeked }

-- Whatever takes them.
module _ {T : Type 0} (takes : Option Event → T → T → Type 0) (x : T) where
  pub many-more : (old now new : Now) (y : T) → PassesSome old now → PassesMore takes now x new y → PassesSome old new
  many-more old now _ _ some none_passed = some
  many-more old now new y some (one_passed r _ z _ e more one taken) = some-more old r new e (many-more old now r z some more) one.moves
  many-more old now new y some (none_taken _ z _ more stays) = many-more old now new z some more

  pub many-events : (old new : Now) (y : T) → old.cursor.spot.peeked ≡ false → PassesMore takes old x new y → PassesSome old new
  many-events old new y unpeeked more = many-more old old new y (no-events old unpeeked) more

  pub many-buffer : (old new : Now) (y : T) → PassesMore takes old x new y → new.buffer ≡ old.buffer
  many-buffer old _ _ none_passed = refl
  many-buffer old new y (one_passed r _ z _ e more one taken) = one.moves.input.buffer ∙ many-buffer old r z more
  many-buffer old new y (none_taken _ z _ more stays) = many-buffer old new z more

  pub many-free : (old new : Now) (y : T) → PassesMore takes old x new y → old.cursor.refusal ≡ None → new.cursor.refusal ≡ None
  many-free old _ _ none_passed free = free
  many-free old new y (one_passed r _ z _ e more one taken) free = one.next.free
  many-free old new y (none_taken _ z _ more stays) free = many-free old new z more free

  pub many-lower : (old new : Now) (y : T) → PassesMore takes old x new y → ahead new ≤ ahead old
  many-lower old _ _ none_passed = omega arith
  many-lower old new y (one_passed r _ z _ e more one taken) = omega (arith, one.shorter, many-lower old r z more)
  many-lower old new y (none_taken _ z _ more stays) = many-lower old new z more

-- Then the end.
pub up-to_end : (old now new : Now) (last : Span) → PassesSome old now → Moves now next (event (Ok None)) new → last ≡ current_span_of new → PassesUp old last
up-to_end old now new last some move told =
    let end = end-stays now new move in
    let unpeeked : new.cursor.spot.peeked ≡ false = ap (λ s. s.peeked) end.stays ∙ some.unpeeked in
    let seen : current_span_of new ≡ new.cursor.spot.place.last = rw unpeeked refl in
    record {
      events = some.events;
      comes = some.comes ∙ ap (events_before some.events) end.over;
      ends = told ∙ seen ∙ ap (λ s. s.place.last) end.stays ∙ some.ends;
    }

-- Or a refusal, after events that came.
pub stops-later : (old now : Now) (events : List Passed) (r : Refusal) → future_of old ≡ events_before events (future_of now) →
    now.buffer ≡ old.buffer → StopsHere now r → GetsStuck old r
stops-later old now events r comes same s = record {
  events = events;
  place = s.place;
  rest = s.rest;
  comes = comes ∙ ap (events_before events) s.comes;
  so = subst (λ l. IsStuck l s.place s.rest r) same s.so;
}

pub refused-after : (old now new : Now) (r : Refusal) → PassesSome old now → now.buffer ≡ old.buffer → now.cursor.refusal ≡ None →
    Moves now next (event (Err r)) new → LacksMemory r ⊎ GetsStuck old r
refused-after old now new r some same free move = elim (refused-next now new r free move) [
  | inl lacks ↦ inl lacks
  | inr s ↦ inr (stops-later old now some.events r some.comes same s)
]

-- The call that tells whether there was an event changes neither the input nor a refusal.
pub told-free : (some : Bool) (old new : Now) → Told some old new → new.cursor.refusal ≡ None
told-free true old new told = (next-passes old new told.0 told.1).free
told-free false old new told = (next-over old new told).free
