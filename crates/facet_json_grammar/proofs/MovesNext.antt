-- What a move takes of what comes: the next event, the next events, or the end.
use Rattle.std.proofs.Common.{◌≡◌, ℕ, zero, suc, ◌<◌, List, [], ◌∷◌, map, length, None, Some, refl, sym, ap, ◌∙◌, arith}
use Rattle.std.specs.Prelude.{Ok, Result}
use Rattle.facet_format.specs.Complaint.{Refusal}
use Rattle.facet_format.specs.Event.{Event, Passed}
use Rattle.facet_format.specs.Cursor.{next, peek, events, Answer, event, batch, an_event, the_end, Cursor, Comes, no_event, one_event, repeats, passes, passes_the_end, peeks, peeks_at_the_end, gives_none, gives, gives_up, gives_without_memory, spot_after, Spot}
use Rattle.facet_json_grammar.specs.Language.{Language}
use Rattle.facet_json_grammar.specs.Future.{Future, gives as gives_first, finished, stuck, events_before}
use Rattle.facet_json_grammar.specs.Reader.{Reader, past, future_at}
use Rattle.facet_json_grammar.proofs.PastEvents.{past-comes}
use Rattle.facet_json_grammar.specs.Now.{Now, future_of, first_of, on_input}
use Rattle.facet_json_grammar.specs.Move.{Moves}
use Rattle.facet_json_grammar.specs.Next.{first_then, PassesNext, ShowsNext, PassesAll, IsOver}
use Rattle.facet_json_grammar.proofs.MoveLaws.{with_cursor, StepOf, by_step}

-- ---- what comes at a place

pub first-gives : (f : Future) (p : Passed) → first_of f ≡ an_event p → (rest : Future) × (f ≡ gives_first p rest)
first-gives (gives_first q rest) p e = let same : q ≡ p = cc in (rest, ap (λ x. gives_first x rest) same)
first-gives finished p e = cc
first-gives (stuck place rest) p e = cc

first-over : (f : Future) → first_of f ≡ the_end → f ≡ finished
first-over finished e = refl
first-over (gives_first q rest) e = cc
first-over (stuck place rest) e = cc

-- Where an event comes, what comes at the place after it comes behind it.
pub event-comes : (buffer : List ℕ) (language : Language) (s : Reader) (p : Passed) → first_of (future_at buffer language s) ≡ an_event p →
    future_at buffer language s ≡ gives_first p (future_at buffer language (past p s))
event-comes buffer language s p e =
    let (rest, is) = first-gives (future_at buffer language s) p e in
    is ∙ ap (gives_first p) (sym (past-comes buffer language s p rest is))

-- Where the end comes, nothing does.
pub end-comes : (buffer : List ℕ) (language : Language) (s : Reader) → first_of (future_at buffer language s) ≡ the_end →
    future_at buffer language s ≡ finished
end-comes buffer language s e = first-over (future_at buffer language s) e

-- Events that come one after another are what comes before the place after them.
pub Comes-before : (buffer : List ℕ) (language : Language) {s after : Reader} {given : List Event} →
    Comes (on_input buffer language) s given after → (passed : List Passed) × (map (λ p. p.event) passed ≡ given)
    × (future_at buffer language s ≡ events_before passed (future_at buffer language after))
Comes-before buffer language (no_event place) = ([], refl, refl)
Comes-before buffer language (one_event place after p others e more) =
    let (passed, same, comes) = Comes-before buffer language more in
    (p ∷ passed, ap (λ es. p.event ∷ es) same, event-comes buffer language place p e ∙ ap (gives_first p) comes)

-- ---- steps

none-passed : (now : Now) {given : List Event} → [] ≡ given → PassesAll now given now
none-passed now e = record { passed = []; events = e; comes = refl }

-- The spot after events is at the place after them.
pub spot_after-place : {given : List Event} (buffer : List ℕ) (language : Language) (spot : Spot Reader) {after : Reader} →
    Comes (on_input buffer language) spot.place given after → (spot_after given after spot).place ≡ after
spot_after-place buffer language spot (no_event place) = refl
spot_after-place buffer language spot (one_event place after p others e more) = refl

all-passed : (now : Now) (d : Cursor Reader) (after : Reader) {es given : List Event} →
    Comes (on_input now.buffer now.language) now.cursor.spot.place es after → d.spot ≡ spot_after es after now.cursor.spot →
    es ≡ given → PassesAll now given (with_cursor now d)
all-passed now d after all spot same =
    let (passed, events_are, comes) = Comes-before now.buffer now.language all in
    let there : d.spot.place ≡ after = ap (λ x. x.place) spot ∙ spot_after-place now.buffer now.language now.cursor.spot all in
    record {
      passed = passed;
      events = events_are ∙ same;
      comes = comes ∙ ap (λ s. events_before passed (future_at now.buffer now.language s)) (sym there);
    }

module _ (now : Now) where
  next_passes : (d : Cursor Reader) (e : Event) (answer : Answer) → answer ≡ event (Ok (Some e)) →
      StepOf now next answer d → PassesNext now e (with_cursor now d)
  next_passes d e answer is (repeats r call a f g) = cc
  next_passes d e answer is (passes p none goes) =
      let same : p.event ≡ e = cc in
      let s = now.cursor.spot.place in
      let rest = future_at now.buffer now.language (past p s) in
      record {
        last = p.last;
        comes = event-comes now.buffer now.language s p goes ∙ ap (λ x. first_then x p.last rest) same;
        free = none;
      }
  next_passes d e answer is _ = cc

  next_over : (d : Cursor Reader) (answer : Answer) → answer ≡ event (Ok None) →
      StepOf now next answer d → IsOver now (with_cursor now d)
  next_over d answer is (repeats r call a f g) = cc
  next_over d answer is (passes_the_end none f) =
      let over = end-comes now.buffer now.language now.cursor.spot.place f in record { over = over; stays = over; free = none }
  next_over d answer is _ = cc

  peek_shows : (d : Cursor Reader) (e : Event) (answer : Answer) → answer ≡ event (Ok (Some e)) →
      StepOf now peek answer d → ShowsNext now e (with_cursor now d)
  peek_shows d e answer is (repeats r call a f g) = cc
  peek_shows d e answer is (peeks p none goes) =
      let same : p.event ≡ e = cc in
      let s = now.cursor.spot.place in
      let rest = future_at now.buffer now.language (past p s) in
      record {
        last = p.last;
        rest = rest;
        comes = event-comes now.buffer now.language s p goes ∙ ap (λ x. first_then x p.last rest) same;
        stays = refl;
        free = none;
      }
  peek_shows d e answer is _ = cc

  peek_over : (d : Cursor Reader) (answer : Answer) → answer ≡ event (Ok None) →
      StepOf now peek answer d → IsOver now (with_cursor now d)
  peek_over d answer is (repeats r call a f g) = cc
  peek_over d answer is (peeks_at_the_end none f) =
      let over = end-comes now.buffer now.language now.cursor.spot.place f in record { over = over; stays = over; free = none }
  peek_over d answer is _ = cc

  events_pass : (d : Cursor Reader) (limit : ℕ) (given : List Event) (result : Result ℕ Refusal) (answer : Answer) →
      answer ≡ batch given result → StepOf now (events limit) answer d → PassesAll now given (with_cursor now d)
  events_pass d zero given result answer is (repeats r call a f g) = cc
  events_pass d (suc k) given result answer is (repeats r call a f g) = let none : [] ≡ given = cc in none-passed now none
  events_pass d limit given result answer is gives_none = let none : [] ≡ given = cc in none-passed now none
  events_pass d limit given result answer is (gives k n es place none all count le over) =
      let same : es ≡ given = cc in all-passed now d place all refl same
  events_pass d limit given result answer is (gives_without_memory k es place p spot none all le more there) =
      let same : es ≡ given = cc in all-passed now d place all there same
  events_pass d limit given result answer is (gives_up k es place r none all le stops so) =
      let same : es ≡ given = cc in all-passed now d place all refl same

  events_count : (d : Cursor Reader) (limit n : ℕ) (given : List Event) (answer : Answer) → answer ≡ batch given (Ok n) →
      StepOf now (events limit) answer d → n ≡ length given
  events_count d zero n given answer is (repeats r call a f g) = cc
  events_count d (suc k) n given answer is (repeats r call a f g) = cc
  events_count d limit n given answer is gives_none =
      let none : [] ≡ given = cc in let zero_is : zero ≡ n = cc in rw (← none) (sym zero_is)
  events_count d limit n given answer is (gives k m es place none all count le over) = cc
  events_count d limit n given answer is (gives_without_memory k es place p spot none all le more there) = cc
  events_count d limit n given answer is (gives_up k es place r none all le stops so) = cc

  events_over : (d : Cursor Reader) (limit n : ℕ) (given : List Event) (answer : Answer) → answer ≡ batch given (Ok n) →
      StepOf now (events limit) answer d → n < limit →
      future_of (with_cursor now d) ≡ finished
  events_over d zero n given answer is (repeats r call a f g) less = cc
  events_over d (suc k) n given answer is (repeats r call a f g) less = cc
  events_over d limit n given answer is gives_none less = absurd (omega (arith, less))
  events_over d limit n given answer is (gives k m es place none all count le over) less =
      let same : m ≡ n = cc in
      let there = spot_after-place now.buffer now.language now.cursor.spot all in
      rw there (end-comes now.buffer now.language place (over (omega (arith, same, less))))
  events_over d limit n given answer is (gives_without_memory k es place p spot none all le more there) less = cc
  events_over d limit n given answer is (gives_up k es place r none all le stops so) less = cc

-- ---- moves

-- An event that is answered came next.
pub next-passes : (old new : Now) (e : Event) → Moves old next (event (Ok (Some e))) new → PassesNext old e new
next-passes old new e move = by_step (PassesNext old e) old new move (λ d step. next_passes old d e _ refl step)

-- Where the end is answered, nothing comes.
pub next-over : (old new : Now) → Moves old next (event (Ok None)) new → IsOver old new
next-over old new move = by_step (IsOver old) old new move (λ d step. next_over old d _ refl step)

-- An event that a peek answers comes next, and stays.
pub peek-shows : (old new : Now) (e : Event) → Moves old peek (event (Ok (Some e))) new → ShowsNext old e new
peek-shows old new e move = by_step (ShowsNext old e) old new move (λ d step. peek_shows old d e _ refl step)

-- Where a peek answers the end, nothing comes.
pub peek-over : (old new : Now) → Moves old peek (event (Ok None)) new → IsOver old new
peek-over old new move = by_step (IsOver old) old new move (λ d step. peek_over old d _ refl step)

-- Events that are given came next.
pub events-pass : (old new : Now) (limit : ℕ) (given : List Event) (result : Result ℕ Refusal) →
    Moves old (events limit) (batch given result) new → PassesAll old given new
events-pass old new limit given result move =
    by_step (PassesAll old given) old new move (λ d step. events_pass old d limit given result _ refl step)

-- They are as many as is answered.
pub events-count : (old new : Now) (limit n : ℕ) (given : List Event) → Moves old (events limit) (batch given (Ok n)) new →
    n ≡ length given
events-count old new limit n given move = events_count old new.cursor limit n given _ refl move.step

-- Where they are fewer than were asked for, nothing comes afterwards.
pub events-over : (old new : Now) (limit n : ℕ) (given : List Event) → Moves old (events limit) (batch given (Ok n)) new →
    n < limit → future_of new ≡ finished
events-over old new limit n given move less =
    by_step (λ x. future_of x ≡ finished) old new move (λ d step. events_over old d limit n given _ refl step less)
