-- Of every parser: what it keeps lies within the input, and so does what its calls answer; and what its calls leave.
use Rattle.std.proofs.Common.{◌≡◌, ◌+◌, ◌<◌, ◌≤◌, ℕ, zero, suc, List, [], ◌∷◌, map, Option, Some, None, true, refl, sym, ap, subst, ◌∙◌, arith}
use Rattle.std.specs.Prelude.{Result, Ok, Err, IfOk, OnSome, MatchOption}
use Rattle.std.specs.List.{All}
use Rattle.std.specs.Option.{option_map}
use Rattle.std.proofs.lemmas.List.Elements.{All-cons, All-nil}
use Rattle.facet_format.specs.declared.event.ParseEvent.{ParseEvent}
use Rattle.facet_format.specs.declared.parse_error.ParseError.{ParseError}
use Rattle.facet_format.specs.Views.{event_of, answer_of_event, answer_of_skip}
use Rattle.facet_format.specs.Complaint.{Refusal}
use Rattle.facet_format.specs.Event.{Event}
use Rattle.facet_format.specs.Kept.{found, without}
use Rattle.facet_format.specs.Cursor.{Call, next, events, skip, save, restore, Spot, Cursor, refused_at, Answer, event, batch, spans, Step, gives_none}
use Rattle.facet_format.specs.Span.{Span}
use Rattle.facet_format.specs.Steps.{IsStep}
use Rattle.facet_json_grammar.specs.Language.{Language}
use Rattle.facet_json_grammar.specs.Reader.{Reader}
use Rattle.facet_json_grammar.specs.Now.{Now, on_input, current_span_of, ahead, GoesOn, StandsAt}
use Rattle.facet_json_grammar.specs.Move.{Moves}
use Rattle.facet_json_grammar.proofs.StepLaws.{leaves_points}
use Rattle.facet_json_grammar.specs.Within.{ReaderWithin, NowWithin, AnswerWithin, no_events}
use Rattle.facet_json_grammar.specs.UnreadLaws.{RefusalWithin}
use Rattle.facet_json_grammar.proofs.MoveIsStep.{move-steps}
use Rattle.facet_json_grammar.proofs.MovesNext.{next-passes}
use Rattle.facet_json_parser.specs.Inner.Wanted.{PassesWanted}
use Rattle.facet_json_grammar.proofs.MoveLaws.{with_cursor, same_cursor-is}
use Rattle.facet_json_grammar.proofs.Spans.AnswersWithin.{moves-within, current-within}
use Rattle.facet_json_grammar.proofs.Spans.BytesAhead.{moves-onward, moves-goes_on, next-lowers, events-lower, skip-lowers}
use Rattle.facet_json_parser.proofs.KeptSpots.{found-spot}
use Rattle.facet_json_parser.proofs.PointsByPlace.{above-missing, without-missing}
use Rattle.facet_json_parser.specs.Lookahead.{Lookahead, first_lookahead, spot_of}
use Rattle.facet_json_parser.specs.Ready.{ArePoints, IsReady}
use Rattle.facet_json_parser.specs.Steps.{PassesOne, ShowsOne, QueuesOne}
use Rattle.facet_json_parser.specs.Views.{kept_spot, cursor_of}
use Rattle.facet_json_parser.proofs.AnswersAreMoves.{next-refused, peek-refused}
use Rattle.facet_json_parser.proofs.EventsInBatch.{queue-refuses}

-- ---- what holds of every parser

-- It holds of a new one.
pub first-ready : (buffer : List ℕ) (language : Language) (f : Lookahead) (kept : List (ℕ × Lookahead)) → f ≡ first_lookahead → kept ≡ [] →
    IsReady buffer language f None kept 0
first-ready buffer language f kept e g =
    rw (e, g) (record { stands = record { within = omega arith; filled = tt }; refused = tt; keeps = tt; counter_fits = omega arith })

points-within : (buffer : List ℕ) (language : Language) (counter : ℕ) (points : List (ℕ × Lookahead)) → ArePoints buffer language counter points →
    All (λ point. ReaderWithin buffer point.1.place) (map kept_spot points)
points-within buffer language counter [] are = All-nil (λ p. ReaderWithin buffer p.1.place)
points-within buffer language counter (point ∷ points) are =
    All-cons (λ p. ReaderWithin buffer p.1.place) (kept_spot point) (map kept_spot points) are.0.within
    (points-within buffer language counter points are.3)

-- What it keeps lies within the input.
pub ready-within : (buffer : List ℕ) (language : Language) (f : Lookahead) (refusal : Option Refusal) (points : List (ℕ × Lookahead)) (counter : ℕ)
    (made now : Now) → IsReady buffer language f refusal points counter →
    made ≡ record { buffer = buffer; language = language; cursor = cursor_of f refusal points counter } → made ≡ now → NowWithin now
ready-within buffer language f refusal points counter made now ready is e =
    subst NowWithin e (rw is (record {
      reader = ready.stands.within;
      kept = points-within buffer language counter points ready.keeps;
      refusal = ready.refused;
    }))

-- ---- what a call answers and leaves

-- Its spans lie within the input.
pub answer-within : (old new : Now) {call : Call} {answer : Answer} → NowWithin old → Moves old call answer new →
    AnswerWithin new.buffer answer
answer-within old new good move = (moves-within old good new move).within

-- What is said of every call but a restore: it is a step and a move, its answer lies within the input, and no bytes are put back.
pub record Moved (old : Now) (call : Call) (answer : Answer) (new : Now) : Type 0 where
  pub steps : IsStep StandsAt old call answer new
  pub moves : Moves old call answer new
  pub within : AnswerWithin new.buffer answer
  pub lowers : ahead new ≤ ahead old
  pub onward : GoesOn old new

pub moved : (old new : Now) {call : Call} {answer : Answer} → NowWithin old → leaves_points call ≡ true → Moves old call answer new → Moved old call answer new
moved old new good leaves move =
    let gone = moves-goes_on old good new leaves move in
    record { steps = move-steps old new _ _ move; moves = move; within = answer-within old new good move; lowers = gone.onward; onward = gone }

-- A save doesn't go back.
pub save-onward : (old new : Now) {answer : Answer} → NowWithin old → Moves old save answer new → ahead new ≤ ahead old
save-onward old new good move = moves-onward old good new move (λ point e. cc)

-- An event that is answered leaves fewer bytes ahead.
pub event-lowers : (old new : Now) (o : Option ParseEvent) → NowWithin old → Moves old next (event (Ok (option_map event_of o))) new →
    OnSome o (ahead new < ahead old)
event-lowers old new None good move = tt
event-lowers old new (Some e) good move = next-lowers old good new (event_of e) move

-- So does any answer with an event.
pub result-lowers : (old new : Now) (r : Result (Option ParseEvent) ParseError) → NowWithin old → Moves old next (answer_of_event r) new →
    IfOk r (λ o. OnSome o (ahead new < ahead old))
result-lowers old new (Ok o) good move = event-lowers old new o good move
result-lowers old new (Err e) good move = tt

-- So it does after a skip.
pub skip-shortens : (old new : Now) (r : Result (Unit {0}) ParseError) → NowWithin old → Moves old skip (answer_of_skip r) new →
    IfOk r (λ _. ahead new < ahead old)
skip-shortens old new (Ok u) good move = skip-lowers old good new move
skip-shortens old new (Err e) good move = tt

-- What is wanted is passed as an event is.
pub wanted-passes : {A : Type 0} (given : A → Event) (old new : Now) (o : Option A) → NowWithin old →
    MatchOption o (new ≡ old) (λ a. Moves old next (event (Ok (Some (given a)))) new) → MatchOption o (new ≡ old) (λ a. PassesWanted old (given a) new)
wanted-passes given old new None known same = same
wanted-passes given old new (Some a) known move =
    let is = moved old new known refl move in
    record {
      moves = move;
      steps = is.steps;
      next = next-passes old new (given a) move;
      onward = is.onward;
      shorter = next-lowers old known new (given a) move;
      within = is.within;
    }

-- The current span lies within the input.
pub told-within : (made now : Now) (s : Span) → made ≡ now → NowWithin now → s ≡ current_span_of made → AnswerWithin now.buffer (spans (Some s))
told-within made now s e good same = rw (same, e) (current-within now good)

-- ---- a batch

-- Asked for no events, it answers none, and nothing changes.
zero-steps : (now : Now) (c : Cursor Reader) (answer : Answer) → Step (on_input now.buffer now.language) now.cursor (events 0) answer c →
    (answer ≡ batch [] (Ok 0)) × (c ≡ now.cursor)
zero-steps now c answer (Step.repeats r call _ e f) = cc
zero-steps now _ _ gives_none = (refl, refl)

events-zero : (old new : Now) (answer : Answer) → Moves old (events 0) answer new → (answer ≡ batch [] (Ok 0)) × (new ≡ old)
events-zero old new answer move =
    let none = zero-steps old new.cursor answer move.step in (none.0, same_cursor-is old new move.input none.1)

-- What a batch answers lies within the input; where no event is asked for nothing has to be known.
pub batch-within : (old new : Now) (limit : ℕ) (answer : Answer) → (0 < limit → NowWithin old) → Moves old (events limit) answer new →
    AnswerWithin new.buffer answer
batch-within old new zero answer known move =
    let none = events-zero old new answer move in subst (AnswerWithin new.buffer) (sym none.0) (no_events, tt)
batch-within old new (suc k) answer known move = answer-within old new (known (omega arith)) move

pub batch-goes_on : (old new : Now) (limit : ℕ) (answer : Answer) → (0 < limit → NowWithin old) → Moves old (events limit) answer new →
    GoesOn old new
batch-goes_on old new zero answer known move =
    let none = events-zero old new answer move in
    subst (GoesOn old) (sym none.1) (record {
      input = record { buffer = refl; language = refl };
      points = record { kept = refl; counter = refl };
      onward = omega arith;
      by_calls = λ first led. led;
    })
batch-goes_on old new (suc k) answer known move = moves-goes_on old (known (omega arith)) new refl move

pub batch-lowers : (old new : Now) (limit n : ℕ) (given : List Event) → (0 < limit → NowWithin old) →
    Moves old (events limit) (batch given (Ok n)) new → ahead new + n ≤ ahead old
batch-lowers old new zero n given known move =
    let none = events-zero old new _ move in
    let answer : batch given (Ok n) ≡ batch [] (Ok 0) = none.0 in
    let zero_is : n ≡ 0 = cc in
    rw (none.1, zero_is) (omega arith)
batch-lowers old new (suc k) n given known move = events-lower old (known (omega arith)) new (suc k) n given move

-- ---- a restore

restored-uses : (now : Now) (point : ℕ) (c : Cursor Reader) (answer : Answer) →
    Step (on_input now.buffer now.language) now.cursor (restore point) answer c →
    (c.kept ≡ without point now.cursor.kept) × (c.counter ≡ now.cursor.counter)
restored-uses now point c answer (Step.repeats r call _ e f) = cc
restored-uses now point _ _ (Step.restores _ s f) = (refl, refl)
restored-uses now point _ _ (Step.restores_nothing _ f) = (sym (without-missing point now.cursor.kept f), refl)

-- The points under its number are used up.
pub restore-uses : (old : Now) (point : ℕ) (new : Now) {answer : Answer} → Moves old (restore point) answer new →
    (new.cursor.kept ≡ without point old.cursor.kept) × (new.cursor.counter ≡ old.cursor.counter)
restore-uses old point new move = restored-uses old point new.cursor _ move.step

-- ---- what a refusal says

pub next-refusal_within : (made now : Now) (r : Refusal) (t : Spot Reader) → made ≡ now → now.cursor.refusal ≡ None → NowWithin now →
    PassesOne (on_input made.buffer made.language) made.cursor.spot (Err r) t → RefusalWithin made.buffer r
next-refusal_within made now r t e none good one =
    answer-within now (with_cursor made (refused_at made.cursor t r)) good (next-refused made now _ r r t e none one refl refl)

pub peek-refusal_within : (made now : Now) (r : Refusal) (t : Spot Reader) → made ≡ now → now.cursor.refusal ≡ None → NowWithin now →
    ShowsOne (on_input made.buffer made.language) made.cursor.spot (Err r) t → RefusalWithin made.buffer r
peek-refusal_within made now r t e none good one =
    answer-within now (with_cursor made (refused_at made.cursor t r)) good (peek-refused made now _ r r t e none one refl refl)

pub queue-refusal_within : (made now : Now) (r : Refusal) (t : Spot Reader) → made ≡ now → now.cursor.refusal ≡ None → NowWithin now →
    QueuesOne (on_input made.buffer made.language) made.cursor.spot (Err r) t → RefusalWithin made.buffer r
queue-refusal_within made now r t e none good one =
    (answer-within now (with_cursor made (refused_at made.cursor t r)) good (queue-refuses made now _ r t e none one refl)).1

-- ---- a save

-- No point has the next number.
pub number-new : (buffer : List ℕ) (language : Language) (f : Lookahead) (refusal : Option Refusal) (points : List (ℕ × Lookahead)) (counter n : ℕ)
    (made now : Now) → IsReady buffer language f refusal points counter →
    made ≡ record { buffer = buffer; language = language; cursor = cursor_of f refusal points counter } → made ≡ now → n ≡ suc counter →
    found n now.cursor.kept ≡ None
number-new buffer language f refusal points counter n made now ready is e same =
    let missing = above-missing buffer language counter n points ready.keeps (omega (arith, same)) in
    let none : found n (map kept_spot points) ≡ None = found-spot n points ∙ ap (option_map spot_of) missing in
    subst (λ x. found n x.cursor.kept ≡ None) e (rw is none)
