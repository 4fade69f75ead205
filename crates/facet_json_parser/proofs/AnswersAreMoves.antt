-- What a call of a parser answers is a move.
use Rattle.std.proofs.Common.{◌≡◌, ◌∙◌, ℕ, suc, ◌<◌, false, List, Option, Some, None, refl, sym, ap, subst}
use Rattle.std.specs.Prelude.{Result, Ok, Err, IfOk, IfSome, IfNone, MatchOption, is_some}
use Rattle.std.specs.Option.{option_map}
use Rattle.facet_format.specs.declared.event.ParseEvent.{ParseEvent}
use Rattle.facet_format.specs.declared.parse_error.ParseError.{ParseError}
use Rattle.facet_format.specs.Views.{event_of, answer_of_event}
use Rattle.facet_format.specs.Complaint.{Refusal, refusal_at, save_limit}
use Rattle.facet_format.specs.Event.{Event}
use Rattle.facet_format.specs.Kept.{found, without, with_point}
use Rattle.facet_format.specs.Cursor.{Call, Answer, event, saved, restored, spans, next, peek, save, restore, span, World, Spot, Cursor, at_spot, refused_at, greatest, no_memory_at, Step, repeats, saves, saves_at_the_limit, saves_without_memory, restores, restores_nothing, tells}
use Rattle.facet_format.specs.Cursor as cursor
use Rattle.facet_json_grammar.specs.Reader.{Reader}
use Rattle.facet_json_grammar.specs.Now.{Now, on_input, current_span_of}
use Rattle.facet_json_grammar.specs.Move.{Moves, without_point}
use Rattle.facet_json_grammar.specs.Next.{PassesNext, ShowsNext, IsOver}
use Rattle.facet_json_grammar.proofs.MoveLaws.{with_cursor}
use Rattle.facet_json_grammar.proofs.MovesNext.{next-passes, next-over, peek-shows, peek-over}
use Rattle.facet_json_reader.specs.declared.place.Language.{Language}
use Rattle.facet_json_reader.specs.declared.refusal.Refused.{Refused}
use Rattle.facet_json_reader.specs.PlaceViews.{language_of, refused_of}
use Rattle.facet_json_parser.specs.declared.lookahead.Lookahead.{Lookahead as RustLookahead}
use Rattle.facet_json_parser.specs.declared.points.Point.{Point}
use Rattle.facet_json_parser.specs.Lookahead.{spot_of}
use Rattle.facet_json_parser.specs.Views.{lookahead_of, now_of}
use Rattle.facet_json_parser.specs.Steps.{PassesOne, passes, passes_the_end, passes_without_memory, passes_nothing, ShowsOne, shows, shows_the_end, shows_without_memory, shows_nothing}

-- ---- steps

module _ {P : Type 0} (w : World P) where
  passes-step : (c : Cursor P) (o : Option Event) (t : Spot P) → c.refusal ≡ None → PassesOne w c.spot (Ok o) t →
      Step w c next (event (Ok o)) (at_spot c t)
  passes-step c _ _ none (passes p up) = cursor.passes p none up
  passes-step c _ _ none (passes_the_end up) = cursor.passes_the_end none up

  passes-refused : (c : Cursor P) (r : Refusal) (t : Spot P) → c.refusal ≡ None → PassesOne w c.spot (Err r) t →
      Step w c next (event (Err r)) (refused_at c t r)
  passes-refused c _ _ none (passes_without_memory p up takes off) = cursor.passes_without_memory p none up takes off
  passes-refused c _ _ none (passes_nothing r up so) = cursor.passes_nothing r none up so

  shows-step : (c : Cursor P) (o : Option Event) (t : Spot P) → c.refusal ≡ None → ShowsOne w c.spot (Ok o) t →
      Step w c peek (event (Ok o)) (at_spot c t)
  shows-step c _ _ none (shows p up) = cursor.peeks p none up
  shows-step c _ _ none (shows_the_end up) = cursor.peeks_at_the_end none up

  shows-refused : (c : Cursor P) (r : Refusal) (t : Spot P) → c.refusal ≡ None → ShowsOne w c.spot (Err r) t →
      Step w c peek (event (Err r)) (refused_at c t r)
  shows-refused c _ _ none (shows_without_memory p up takes) = cursor.peeks_without_memory p none up takes
  shows-refused c _ _ none (shows_nothing r up so) = cursor.peeks_at_nothing r none up so

-- A parser that holds no refusal has none.
pub no_refusal : (refusal : Option Refused) → is_some refusal ≡ false → option_map refused_of refusal ≡ None
no_refusal None e = refl
no_refusal (Some r) e = cc

-- ---- moves

-- A step from where a parser stands is a move of it.
pub step-moves : (made now : Now) (c : Cursor Reader) (call : Call) (answer : Answer) → made ≡ now →
    Step (on_input made.buffer made.language) made.cursor call answer c → Moves now call answer (with_cursor made c)
step-moves made now c call answer e step =
    subst (λ x. Moves x call answer (with_cursor made c)) e (record { input = record { buffer = refl; language = refl }; step = step })

-- A refusal that was kept is repeated.
pub next-repeats : (now : Now) (r : Refusal) → now.cursor.refusal ≡ Some r → Moves now next (event (Err r)) now
next-repeats now r e = step-moves now now now.cursor next _ refl (repeats r next (event (Err r)) e refl)

pub peek-repeats : (now : Now) (r : Refusal) → now.cursor.refusal ≡ Some r → Moves now peek (event (Err r)) now
peek-repeats now r e = step-moves now now now.cursor peek _ refl (repeats r peek (event (Err r)) e refl)

pub save-repeats : (now : Now) (r : Refusal) → now.cursor.refusal ≡ Some r → Moves now save (saved (Err r)) now
save-repeats now r e = step-moves now now now.cursor save _ refl (repeats r save (saved (Err r)) e refl)

-- The refusal of a parser, made otherwise.
pub none-made : (made now : Now) → made ≡ now → now.cursor.refusal ≡ None → made.cursor.refusal ≡ None
none-made made now e none = rw e none

pub next-answers : (made now : Now) (o : Option Event) (t : Spot Reader) → made ≡ now → now.cursor.refusal ≡ None →
    PassesOne (on_input made.buffer made.language) made.cursor.spot (Ok o) t →
    Moves now next (event (Ok o)) (with_cursor made (at_spot made.cursor t))
next-answers made now o t e none one =
    step-moves made now _ next _ e (passes-step (on_input made.buffer made.language) made.cursor o t (none-made made now e none) one)

-- An event that is passed at once is answered; else nothing changes.
pub quick-answers : {A : Type 0} (given : A → Event) (input : List ℕ) (language read : Language) (s u : RustLookahead) (refusal : Option Refused)
    (points : List Point) (counter : ℕ) (now : Now) (o : Option A) → now_of input language s refusal points counter ≡ now → is_some refusal ≡ false →
    language ≡ read →
    MatchOption o (u ≡ s) (λ a. PassesOne (on_input input (language_of read)) (spot_of (lookahead_of s)) (Ok (Some (given a))) (spot_of (lookahead_of u))) →
    MatchOption o (now_of input language u refusal points counter ≡ now)
    (λ a. Moves now next (event (Ok (Some (given a)))) (now_of input language u refusal points counter))
quick-answers given input language read s u refusal points counter now None view none is same =
    ap (λ (x : RustLookahead). now_of input language x refusal points counter) same ∙ view
quick-answers given input language read s u refusal points counter now (Some a) view none is one =
    let made = now_of input language s refusal points counter in
    next-answers made now (Some (given a)) (spot_of (lookahead_of u)) view (none-made now made (sym view) (no_refusal refusal none))
    (rw is one)

pub next-refused : (made now new : Now) (r q : Refusal) (t : Spot Reader) → made ≡ now → now.cursor.refusal ≡ None →
    PassesOne (on_input made.buffer made.language) made.cursor.spot (Err r) t → new ≡ with_cursor made (refused_at made.cursor t r) → q ≡ r →
    Moves now next (event (Err q)) new
next-refused made now new r q t e none one after same =
    rw (same, after) (step-moves made now _ next _ e (passes-refused (on_input made.buffer made.language) made.cursor r t (none-made made now e none) one))

pub peek-answers : (made now : Now) (o : Option Event) (t : Spot Reader) → made ≡ now → now.cursor.refusal ≡ None →
    ShowsOne (on_input made.buffer made.language) made.cursor.spot (Ok o) t →
    Moves now peek (event (Ok o)) (with_cursor made (at_spot made.cursor t))
peek-answers made now o t e none one =
    step-moves made now _ peek _ e (shows-step (on_input made.buffer made.language) made.cursor o t (none-made made now e none) one)

pub peek-refused : (made now new : Now) (r q : Refusal) (t : Spot Reader) → made ≡ now → now.cursor.refusal ≡ None →
    ShowsOne (on_input made.buffer made.language) made.cursor.spot (Err r) t → new ≡ with_cursor made (refused_at made.cursor t r) → q ≡ r →
    Moves now peek (event (Err q)) new
peek-refused made now new r q t e none one after same =
    rw (same, after) (step-moves made now _ peek _ e (shows-refused (on_input made.buffer made.language) made.cursor r t (none-made made now e none) one))

-- ---- points

pub save-stops : (made now : Now) (q : Refusal) → made ≡ now → now.cursor.refusal ≡ None → made.cursor.counter ≡ greatest →
    q ≡ refusal_at save_limit (current_span_of made) → Moves now save (saved (Err q)) now
save-stops made now q e none at same =
    let move = step-moves made now _ save _ e (saves_at_the_limit (none-made made now e none) at) in
    rw same (subst (λ x. Moves now save (saved (Err (refusal_at save_limit (current_span_of made)))) x) e move)

pub save-fails : (made now new : Now) (q : Refusal) → made ≡ now → new ≡ made → now.cursor.refusal ≡ None →
    made.cursor.counter < greatest → q ≡ no_memory_at (current_span_of made) → Moves now save (saved (Err q)) new
save-fails made now new q e after none less same =
    rw (same, after) (step-moves made now _ save _ e (saves_without_memory (none-made made now e none) less))

pub save-keeps : (made now : Now) (kept : List (ℕ × Spot Reader)) (n : ℕ) → made ≡ now → now.cursor.refusal ≡ None →
    made.cursor.counter < greatest → n ≡ suc made.cursor.counter → kept ≡ with_point n made.cursor.spot made.cursor.kept →
    Moves now save (saved (Ok n)) (with_cursor made (record made.cursor { kept = kept; counter = n }))
save-keeps made now kept n e none less same list =
    rw (list, same) (step-moves made now _ save _ e (saves (none-made made now e none) less))

pub restore-brings : (made now : Now) (kept : List (ℕ × Spot Reader)) (number : ℕ) (s : Spot Reader) → made ≡ now →
    found number made.cursor.kept ≡ Some s → kept ≡ without number made.cursor.kept →
    Moves now (restore number) restored (with_cursor made (record made.cursor { spot = s; refusal = None; kept = kept }))
restore-brings made now kept number s e here list =
    rw list (step-moves made now _ (restore number) restored e (restores number s here))

pub point-dropped : (made now : Now) (number : ℕ) (kept : List (ℕ × Spot Reader)) → made ≡ now → kept ≡ without number made.cursor.kept →
    with_cursor made (record made.cursor { kept = kept }) ≡ without_point number now
point-dropped made now number kept e list = ap (λ ps. with_cursor made (record made.cursor { kept = ps })) list ∙ ap (without_point number) e

pub restore-leaves : (made now new : Now) (number : ℕ) → made ≡ now → new ≡ made → found number made.cursor.kept ≡ None →
    Moves now (restore number) restored new
restore-leaves made now new number e after none =
    rw after (step-moves made now _ (restore number) restored e (restores_nothing number none))

-- The current span is told.
pub told-moves : (now : Now) (answer : Answer) → answer ≡ spans (Some (current_span_of now)) → Moves now span answer now
told-moves now answer e = rw e (step-moves now now now.cursor span _ refl tells)

-- ---- what a loop needs

-- An event that is answered came next.
pub event-passes : (old new : Now) (o : Option ParseEvent) → Moves old next (event (Ok (option_map event_of o))) new →
    IfSome o (λ e. PassesNext old (event_of e) new)
event-passes old new None move = tt
event-passes old new (Some e) move = next-passes old new (event_of e) move

-- Where no event is answered, nothing comes.
pub event-over : (old new : Now) (o : Option ParseEvent) → Moves old next (event (Ok (option_map event_of o))) new →
    IfNone o (IsOver old new)
event-over old new None move = next-over old new move
event-over old new (Some e) move = tt

-- So are they of any answer.
pub result-passes : (old new : Now) (r : Result (Option ParseEvent) ParseError) → Moves old next (answer_of_event r) new →
    IfOk r (λ o. IfSome o (λ e. PassesNext old (event_of e) new))
result-passes old new (Ok o) move = event-passes old new o move
result-passes old new (Err e) move = tt

pub result-over : (old new : Now) (r : Result (Option ParseEvent) ParseError) → Moves old next (answer_of_event r) new →
    IfOk r (λ o. IfNone o (IsOver old new))
result-over old new (Ok o) move = event-over old new o move
result-over old new (Err e) move = tt

-- An event that is shown comes next.
pub event-shows : (old new : Now) (o : Option ParseEvent) → Moves old peek (event (Ok (option_map event_of o))) new →
    IfSome o (λ e. ShowsNext old (event_of e) new)
event-shows old new None move = tt
event-shows old new (Some e) move = peek-shows old new (event_of e) move

-- Where no event is shown, nothing comes.
pub no-event-over : (old new : Now) (o : Option ParseEvent) → Moves old peek (event (Ok (option_map event_of o))) new →
    IfNone o (IsOver old new)
no-event-over old new None move = peek-over old new move
no-event-over old new (Some e) move = tt
