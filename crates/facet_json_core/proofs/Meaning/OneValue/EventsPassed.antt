-- What an event that is passed does to the value that is being read: it begins one, ends one, or stands within one.
use Rattle.std.proofs.Common.{◌≡◌, ℕ, true, List, ◌∷◌, Some, refl, sym, ap, ◌∙◌, subst}
use Rattle.std.specs.Prelude.{Ok}
use Rattle.facet_format.specs.Cursor.{Answer, next, event, Cursor, at_spot, unpeeked, repeats, passes}
use Rattle.facet_format.specs.Event.{ContainerKind, object, array, Event, EventKind, Passed, struct_start, struct_end, sequence_start, sequence_end, field_key, scalar}
use Rattle.facet_format.specs.Span.{stop}
use Rattle.facet_json_token.specs.Gap.{Mode}
use Rattle.facet_json_token.specs.Token.{Token}
use Rattle.facet_json_token.specs.Tokens.{Tokens}
use Rattle.facet_json_token.specs.TokenList.{tokens_from}
use Rattle.facet_json_token.specs.Tokens as tokens
use Rattle.facet_json_token.proofs.TokensSteps.{tokens_from-others}
use Rattle.facet_json_grammar.specs.Future.{gives, Stage, within, over, stack_after, stage_after, reads_by}
use Rattle.facet_json_grammar.specs.StrictTokens.{tokens_in}
use Rattle.facet_json_grammar.specs.Reader.{Reader, past}
use Rattle.facet_json_grammar.specs.Language.{Rules, rules}
use Rattle.facet_json_grammar.specs.Place.{Place, says, says_scalar, names, place_turn, led}
use Rattle.facet_json_grammar.specs.Place as turn
use Rattle.facet_json_grammar.specs.Run.{opening, closing, is_separator, one_token, brackets, RunsInside, nothing, separator, a_run}
use Rattle.facet_json_grammar.specs.Unread.{begins_value, past_value}
use Rattle.facet_json_grammar.proofs.Parts.BracketsOnWalk.{a_colon}
use Rattle.facet_json_grammar.proofs.PastEvents.{nothing-behind}
use Rattle.facet_json_grammar.specs.Move.{Moves}
use Rattle.facet_json_grammar.specs.Now.{Now, future_of}
use Rattle.facet_json_grammar.specs.SkipLaws.{GoesOnWith, with_value, after_separator, BeforeValue}
use Rattle.facet_json_grammar.proofs.MoveLaws.{with_cursor, StepOf, by_step}
use Rattle.facet_json_grammar.proofs.MovesNext.{event-comes}
use Rattle.facet_json_grammar.proofs.OneRun.BracketTurns.{TurnsTo, turns}
use Rattle.facet_json_core.specs.Meaning.OneValue.{PassesValue, tokens_left, IsInside, PassesByKind}
use Rattle.facet_json_core.proofs.Meaning.OneValue.EventTokens.{AfterSeparators, none, one_more, GivesHere, an_event as gives_event, a_scalar, a_key, GivesEvent, tokens-give}

-- ---- runs, commas and colons in order

-- They may follow one another.
pub runs-then : (ts others rest : Tokens) → RunsInside ts others → RunsInside others rest → RunsInside ts rest
runs-then _ _ rest (nothing _) more = more
runs-then _ others rest (separator t ts _ e before) more = separator t ts rest e (runs-then ts others rest before more)
runs-then _ others rest (a_run ts between _ last run before) more = a_run ts between rest last run (runs-then between others rest before more)

-- A separator is one of them.
passed-separates : (place other : Place) (t : Token) → place_turn place t.kind ≡ turn.passes other → is_separator t.kind ≡ true
passed-separates place other t e = (subst (TurnsTo place t.kind) e (turns place t.kind)).0

module _ (by : Rules) where
  -- Separators and runs after them.
  separators-runs : (place there : Place) (ts left rest : Tokens) → AfterSeparators by place ts there left → RunsInside left rest →
      RunsInside ts rest
  separators-runs place _ ts _ rest (none _ _) inside = inside
  separators-runs place there _ left rest (one_more _ other _ t ts _ e more) inside =
      separator t ts rest (passed-separates place other t e) (separators-runs (led by other) there ts left rest more inside)

  -- Separators and a value after them.
  separators-value : (place there : Place) (ts : Tokens) (first : Token) (others : Tokens) →
      AfterSeparators by place ts there (tokens.next first others) → begins_value (place_turn there first.kind) ≡ true →
      GoesOnWith by place ts first others
  separators-value place _ _ first others (none _ _) b = with_value place first others b
  separators-value place there _ first others (one_more _ other _ t ts _ e more) b =
      after_separator place other t first ts others e (separators-value (led by other) there ts first others more b)

  -- Where the tokens go on with a value, its run comes after separators.
  pub value-runs : (place : Place) (ts : Tokens) (first : Token) (others rest : Tokens) → GoesOnWith by place ts first others →
      RunsInside (tokens.next first others) rest → RunsInside ts rest
  value-runs place _ first others rest (with_value _ _ _ b) inside = inside
  value-runs place _ first others rest (after_separator _ other t _ ts _ e more) inside =
      separator t ts rest (passed-separates place other t e) (value-runs (led by other) ts first others rest more inside)

  -- Its tokens stand from some position on.
  pub value-stands : (buffer : List ℕ) (mode : Mode) (from : ℕ) (place : Place) (ts : Tokens) (first : Token) (others : Tokens) →
      GoesOnWith by place ts first others → tokens_from buffer mode from ≡ ts →
      (to : ℕ) × (tokens_from buffer mode to ≡ tokens.next first others)
  value-stands buffer mode from place _ first others (with_value _ _ _ b) at = (from, at)
  value-stands buffer mode from place _ first others (after_separator _ other t _ ts _ e more) at =
      value-stands buffer mode (stop t.span) (led by other) ts first others more (tokens_from-others buffer mode from t ts at)

-- ---- the tokens of an event

-- What the tokens begin with that give an event of this kind.
abbrev BeginsWith : EventKind → Place → Tokens → Passed → Tokens → Type 0
BeginsWith (scalar v) place ts p rest =
    (t : Token) × (ts ≡ tokens.next t rest) × (place_turn place t.kind ≡ says_scalar) × (p.last ≡ t.span)
BeginsWith (field_key name) place ts p rest =
    (t : Token) × (mark : Token) × (ts ≡ tokens.next t (tokens.next mark rest)) × (place_turn place t.kind ≡ names) × (is_separator mark.kind ≡ true)
BeginsWith kind place ts p rest =
    (t : Token) × (ts ≡ tokens.next t rest) × (place_turn place t.kind ≡ says kind) × (p.last ≡ t.span)

-- What a token is that says an event of this kind.
says-so : (place : Place) (t : Token) (kind : EventKind) → place_turn place t.kind ≡ says kind → TurnsTo place t.kind (says kind)
says-so place t kind e = subst (TurnsTo place t.kind) e (turns place t.kind)

begins-with : (buffer : List ℕ) (place : Place) (ts : Tokens) (p : Passed) (rest : Tokens) (kind : EventKind) → GivesHere buffer place ts p rest →
    p.event.kind ≡ kind → BeginsWith kind place ts p rest
begins-with buffer place _ _ rest (scalar v) (gives_event _ k t _ e) is = absurd (says-so place t (scalar v) (e ∙ ap says is))
begins-with buffer place _ _ rest (field_key name) (gives_event _ k t _ e) is = absurd (says-so place t (field_key name) (e ∙ ap says is))
begins-with buffer place _ _ rest (struct_start c) (gives_event _ k t _ e) is = (t, refl, e ∙ ap says is, refl)
begins-with buffer place _ _ rest struct_end (gives_event _ k t _ e) is = (t, refl, e ∙ ap says is, refl)
begins-with buffer place _ _ rest (sequence_start c) (gives_event _ k t _ e) is = (t, refl, e ∙ ap says is, refl)
begins-with buffer place _ _ rest sequence_end (gives_event _ k t _ e) is = (t, refl, e ∙ ap says is, refl)
begins-with buffer place _ _ rest (scalar v) (a_scalar _ t _ e) is = (t, refl, e, refl)
begins-with buffer place _ _ rest _ (a_scalar _ t _ e) is = cc
begins-with buffer place _ _ rest (field_key name) (a_key _ t mark _ e c) is = (t, mark, refl, e, a_colon mark.kind c)
begins-with buffer place _ _ rest _ (a_key _ t mark _ e c) is = cc

-- ---- an event that is passed

module _ (now : Now) (p : Passed) where
  -- the parser after the event
  abbrev after : Now
  after = with_cursor now (at_spot now.cursor (unpeeked (past p now.cursor.spot.place)))

  module _ (place : Place) (at : now.cursor.spot.place.stage ≡ within place)
      (g : GivesEvent now.buffer (rules now.language) place (tokens_left now) p (tokens_left after)) where
    -- Separators and runs lead from the tokens before the event to those after it.
    separators-then : (ts : Tokens) → g.left ≡ ts → RunsInside ts (tokens_left after) → RunsInside (tokens_left now) (tokens_left after)
    separators-then ts is inside =
        separators-runs (rules now.language) place g.there (tokens_left now) g.left (tokens_left after) g.separators
        (subst (λ l. RunsInside l (tokens_left after)) (sym is) inside)

    -- A value begins with the event.
    stood-before : (t : Token) → g.left ≡ tokens.next t (tokens_left after) → begins_value (place_turn g.there t.kind) ≡ true →
        BeforeValue now t (tokens_left after)
    stood-before t is b = record {
      place = place;
      stage = at;
      value = separators-value (rules now.language) place g.there (tokens_left now) t (tokens_left after)
          (subst (AfterSeparators (rules now.language) place (tokens_left now) g.there) is g.separators) b;
    }

    -- A bracket opens a container.
    opened : (kind : ContainerKind) (t : Token) → g.left ≡ tokens.next t (tokens_left after) → begins_value (place_turn g.there t.kind) ≡ true →
        t.kind ≡ opening kind → after.cursor.spot.place.stack ≡ kind ∷ now.cursor.spot.place.stack → IsInside kind now after
    opened kind t is b opens stack = record {
      first = t;
      inner = tokens_left after;
      before = stood-before t is b;
      opens = opens;
      passed = nothing (tokens_left after);
      stack = stack;
    }

    -- A bracket closes the container that the parser was in.
    closed : (kind : ContainerKind) (t : Token) (start : Now) → g.left ≡ tokens.next t (tokens_left after) → t.kind ≡ closing kind →
        IsInside kind start now → after.cursor.spot ≡ unpeeked (past_value t.span start.cursor.spot.place.stack) → PassesValue start after
    closed kind t start is closes inside there =
        let left = runs-then inside.inner (tokens_left now) (tokens.next t (tokens_left after)) inside.passed
        (separators-runs (rules now.language) place g.there (tokens_left now) g.left (tokens.next t (tokens_left after)) g.separators
        (subst (RunsInside g.left) is (nothing g.left))) in
        record {
          first = inside.first;
          others = inside.inner;
          before = inside.before;
          passed = record {
            last = t;
            rest = tokens_left after;
            run = brackets kind inside.first t inside.inner (tokens_left after) inside.opens left closes;
            there = there;
          };
        }

    -- What was passed with the event.
    pub passed-by_kind : (kind : EventKind) → p.event.kind ≡ kind → BeginsWith kind g.there g.left p (tokens_left after) → PassesByKind kind now after
    passed-by_kind (struct_start c) is b =
        opened object b.0 b.1 (ap begins_value b.2) (says-so g.there b.0 (struct_start c) b.2)
        (ap (λ k. stack_after k now.cursor.spot.place.stack) is)
    passed-by_kind (sequence_start c) is b =
        opened array b.0 b.1 (ap begins_value b.2) (says-so g.there b.0 (sequence_start c) b.2)
        (ap (λ k. stack_after k now.cursor.spot.place.stack) is)
    passed-by_kind struct_end is b = λ start inside.
        closed object b.0 start b.1 (says-so g.there b.0 struct_end b.2).0 inside (rw (is, inside.stack, b.3) refl)
    passed-by_kind sequence_end is b = λ start inside.
        closed array b.0 start b.1 (says-so g.there b.0 sequence_end b.2).0 inside (rw (is, inside.stack, b.3) refl)
    passed-by_kind (scalar v) is b =
        record {
          first = b.0;
          others = tokens_left after;
          before = stood-before b.0 b.1 (ap begins_value b.2);
          passed = record {
            last = b.0;
            rest = tokens_left after;
            run = one_token b.0 (tokens_left after) (subst (TurnsTo g.there b.0.kind) b.2 (turns g.there b.0.kind));
            there = rw (is, b.3) refl;
          };
        }
    passed-by_kind (field_key name) is b = (
      λ start inside. record {
        first = inside.first;
        inner = inside.inner;
        before = inside.before;
        opens = inside.opens;
        passed = runs-then inside.inner (tokens_left now) (tokens_left after) inside.passed
            (separators-then _ b.2
            (a_run _ (tokens.next b.1 (tokens_left after)) (tokens_left after) b.0
            (one_token b.0 _ (subst (TurnsTo g.there b.0.kind) b.3 (turns g.there b.0.kind)).0)
            (separator b.1 (tokens_left after) (tokens_left after) b.4 (nothing (tokens_left after)))));
        stack = ap (λ k. stack_after k now.cursor.spot.place.stack) is ∙ inside.stack;
      },
      ap (λ k. stage_after k now.cursor.spot.place.stack) is,
    )

  -- What comes is read from the stage on.
  comes-at : (stage : Stage) → now.cursor.spot.place.stage ≡ stage →
      future_of now ≡ reads_by (rules now.language) now.buffer now.cursor.spot.place.stack stage (tokens_in now.language now.buffer (stop now.cursor.spot.place.last))
  comes-at stage at =
      ap (λ x. reads_by (rules now.language) now.buffer now.cursor.spot.place.stack x (tokens_in now.language now.buffer (stop now.cursor.spot.place.last))) at

  -- At whatever stage the event comes, it is passed so.
  comes-by_kind : (stage : Stage) → now.cursor.spot.place.stage ≡ stage → future_of now ≡ gives p (future_of after) → PassesByKind p.event.kind now after
  unfolding reads_by
  comes-by_kind over at comes = absurd (nothing-behind now.language now.buffer (rules now.language) _ p _ (sym (comes-at over at) ∙ comes))
  comes-by_kind (within place) at comes =
      let s = now.cursor.spot.place in
      let g = tokens-give now.language now.buffer _ s.stack place (stop s.last) p (future_of after) refl (sym (comes-at (within place) at) ∙ comes) in
      passed-by_kind place at g p.event.kind refl (begins-with now.buffer g.there g.left p (tokens_left after) p.event.kind g.gives refl)

-- Each event that is answered is passed so.
pub next-passes_by_kind : (old new : Now) (e : Event) → Moves old next (event (Ok (Some e))) new → PassesByKind e.kind old new
next-passes_by_kind old new e move = by_step (PassesByKind e.kind old) old new move (λ d step. step-by_kind d _ refl step)
  where
    step-by_kind : (d : Cursor Reader) (answer : Answer) → answer ≡ event (Ok (Some e)) → StepOf old next answer d →
        PassesByKind e.kind old (with_cursor old d)
    step-by_kind d answer is (repeats r call _ f a) = cc
    step-by_kind d answer is (passes p free goes) =
        let same : p.event ≡ e = cc in
        subst (λ x. PassesByKind x.kind old (after old p)) same
        (comes-by_kind old p old.cursor.spot.place.stage refl (event-comes old.buffer old.language old.cursor.spot.place p goes))
    step-by_kind d answer is _ = cc
