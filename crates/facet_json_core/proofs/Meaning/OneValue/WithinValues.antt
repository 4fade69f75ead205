-- A value that is read part by part: values within a container, and looks ahead, which pass nothing.
use Rattle.std.proofs.Common.{◌≡◌, Bool, true, false, Some, None, Option, refl, sym, ap, ◌∙◌}
use Rattle.std.specs.Prelude.{Ok}
use Rattle.std.proofs.lemmas.Option.{MatchOption-at_some}
use Rattle.facet_format.specs.Cursor.{Answer, Cursor, peek, event, repeats, peeks, peeks_at_the_end}
use Rattle.facet_format.specs.Event.{ContainerKind, object, Event, EventKind, Passed}
use Rattle.facet_format.specs.Span.{stop}
use Rattle.facet_json_token.specs.Tokens.{next}
use Rattle.facet_json_grammar.specs.Future.{Future, gives}
use Rattle.facet_json_grammar.specs.Reader.{Reader}
use Rattle.facet_json_grammar.specs.Language.{rules, gaps}
use Rattle.facet_json_grammar.specs.Run.{a_run, nothing}
use Rattle.facet_json_grammar.proofs.Parts.TokensAfterRuns.{tokens_from-run}
use Rattle.facet_json_grammar.specs.Move.{Moves}
use Rattle.facet_json_grammar.specs.Next.{PassesNext}
use Rattle.facet_json_grammar.specs.Now.{Now, SameInput}
use Rattle.facet_json_grammar.proofs.MoveLaws.{with_cursor, StepOf, by_step}
use Rattle.facet_json_grammar.proofs.MovesNext.{event-comes}
use Rattle.facet_json_core.specs.Meaning.OneValue.{PassesValue, tokens_left, IsInside, PassesMemberOrEnd, ComesNext, LooksAhead}
use Rattle.facet_json_core.proofs.Meaning.OneValue.EventsPassed.{runs-then, value-runs, value-stands}

-- ---- values within a container

module _ (kind : ContainerKind) (start now new : Now) (inside : IsInside kind start now) (input : SameInput now new) where
  -- After a value the parser is within the same container.
  pub inside-value : PassesValue now new → IsInside kind start new
  inside-value v =
      let by = rules now.language in
      let mode = gaps now.language in
      let goes = v.before.value in
      let at = value-stands by now.buffer mode (stop now.cursor.spot.place.last) v.before.place (tokens_left now) v.first v.others goes refl in
      let left = tokens_from-run now.buffer mode at.0 (next v.first v.others) v.passed.rest v.passed.last v.passed.run at.1 in
      let same : tokens_left new ≡ v.passed.rest = rw (input.buffer, input.language, v.passed.there) left in
      let run = a_run (next v.first v.others) v.passed.rest v.passed.rest v.passed.last v.passed.run (nothing v.passed.rest) in
      let all = runs-then inside.inner (tokens_left now) v.passed.rest inside.passed
      (value-runs by v.before.place (tokens_left now) v.first v.others v.passed.rest goes run) in
      record {
        first = inside.first;
        inner = inside.inner;
        before = inside.before;
        opens = inside.opens;
        passed = rw same all;
        stack = ap (λ spot. spot.place.stack) v.passed.there ∙ inside.stack;
      }

  -- So it is where it stands where it stood.
  pub inside-stays : new.cursor.spot.place ≡ now.cursor.spot.place → IsInside kind start new
  inside-stays there =
      let same : tokens_left new ≡ tokens_left now = rw (input.buffer, input.language, there) refl in
      record {
        first = inside.first;
        inner = inside.inner;
        before = inside.before;
        opens = inside.opens;
        passed = rw same inside.passed;
        stack = ap (λ place. place.stack) there ∙ inside.stack;
      }

-- After a key and its value the parser is within the same object.
pub inside-member : {K : Type 0} (start now mid new : Now) (given : Option K) (key : K) → IsInside object start now → PassesMemberOrEnd now given mid →
    given ≡ Some key → SameInput mid new → PassesValue mid new → IsInside object start new
inside-member start now mid new given key inside member is input v =
    inside-value object start mid new ((MatchOption-at_some _ _ key is member).0 start inside) input v

-- ---- looks ahead

-- A value that is passed from the same place is passed.
pub value-stays : (old now new : Now) → SameInput old now → now.cursor.spot.place ≡ old.cursor.spot.place → PassesValue now new → PassesValue old new
value-stays old now new input there v = record {
  first = v.first;
  others = v.others;
  before = record {
    place = v.before.place;
    stage = ap (λ place. place.stage) (sym there) ∙ v.before.stage;
    value = rw (← input.buffer, ← input.language, ← there) v.before.value;
  };
  passed = record {
    last = v.passed.last;
    rest = v.passed.rest;
    run = v.passed.run;
    there = rw (← there) v.passed.there;
  };
}

-- A peek answers what comes next, and passes nothing.
pub peek-looks : (is : EventKind → Bool) (old new : Now) (e : Event) (found : Bool) → is e.kind ≡ found → Moves old peek (event (Ok (Some e))) new →
    LooksAhead is old found new
peek-looks is old new e found same move = by_step (LooksAhead is old found) old new move (λ d step. by d _ refl step)
  where
    by : (d : Cursor Reader) (answer : Answer) → answer ≡ event (Ok (Some e)) → StepOf old peek answer d → LooksAhead is old found (with_cursor old d)
    by d answer a (repeats r call _ f g) = cc
    by d answer a (peeks p free goes) =
        let shown : p.event ≡ e = cc in
        record {
          there = refl;
          comes = λ yes. record {
            passed = p;
            rest = _;
            comes = event-comes old.buffer old.language old.cursor.spot.place p goes;
            so = ap (λ (x : Event). is x.kind) shown ∙ same ∙ yes;
          };
        }
    by d answer a _ = cc

-- At the end a peek passes nothing.
pub peek-looks_past : (is : EventKind → Bool) (old new : Now) → Moves old peek (event (Ok None)) new → LooksAhead is old false new
peek-looks_past is old new move = by_step (LooksAhead is old false) old new move (λ d step. by d _ refl step)
  where
    by : (d : Cursor Reader) (answer : Answer) → answer ≡ event (Ok None) → StepOf old peek answer d → LooksAhead is old false (with_cursor old d)
    by d answer a (repeats r call _ f g) = cc
    by d answer a (peeks_at_the_end free over) = record { there = refl; comes = λ yes. cc }
    by d answer a _ = cc

first-same : (p q : Passed) (f g : Future) → gives p f ≡ gives q g → p ≡ q
first-same p q f g e = cc

-- The event that is passed next is of the kind that comes.
pub next-is : (is : EventKind → Bool) (old new : Now) (e : Event) → ComesNext is old → PassesNext old e new → is e.kind ≡ true
next-is is old new e comes passes =
    let same : comes.passed ≡ record { event = e; last = passes.last } = first-same _ _ _ _ (sym comes.comes ∙ passes.comes) in
    ap (λ (x : Passed). is x.event.kind) (sym same) ∙ comes.so
