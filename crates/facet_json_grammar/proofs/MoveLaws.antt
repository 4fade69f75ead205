-- Laws of a parser's moves, on every input: what is kept, what is repeated, a peek is the next event, save and restore.
use Rattle.std.proofs.Common.{◌≡◌, ℕ, suc, true, List, [], ◌∷◌, ◌++◌, Some, None, refl, sym, subst, ap, ◌∙◌}
use Rattle.std.specs.Prelude.{Ok, Err}
use Rattle.facet_format.specs.Complaint.{Refusal}
use Rattle.facet_format.specs.Event.{Event}
use Rattle.facet_format.specs.Kept.{found}
use Rattle.facet_format.specs.Cursor.{Call, next, peek, save, restore, Answer, event, saved, Cursor, Step, no_calls, one_call}
use Rattle.facet_json_grammar.specs.Reader.{Reader}
use Rattle.facet_json_grammar.specs.Now.{Now, on_input, SameInput, SamePoints}
use Rattle.facet_json_grammar.specs.Move.{Moves, MovesAll, with_kept}
use Rattle.facet_json_grammar.proofs.StepLaws.{leaves_points, step-points, step-peeked, step-saved, step-unsaved, step-unknown, run-append}

-- the parser with another cursor
abbrev pub with_cursor : Now → Cursor Reader → Now
with_cursor now c = record now { cursor = c }

-- A parser of the same input is the one with its cursor.
pub same_input-is : (old new : Now) → SameInput old new → new ≡ with_cursor old new.cursor
same_input-is old new input = rw (← input.buffer, ← input.language) refl

-- With the same cursor it is the same.
pub same_cursor-is : (old new : Now) → SameInput old new → new.cursor ≡ old.cursor → new ≡ old
same_cursor-is old new input same = same_input-is old new input ∙ ap (with_cursor old) same

-- a step of the parser's cursor
abbrev pub StepOf : Now → Call → Answer → Cursor Reader → Type 0
StepOf now call answer c = Step (on_input now.buffer now.language) now.cursor call answer c

-- What holds of the parser after each step holds of the one that a move leaves.
pub by_step : (F : Now → Type 0) (old new : Now) {call : Call} {answer : Answer} → Moves old call answer new →
    ((d : Cursor Reader) → StepOf old call answer d → F (with_cursor old d)) → F new
by_step F old new move h = subst F (sym (same_input-is old new move.input)) (h new.cursor move.step)

-- Every call but a save and a restore leaves the points and the counter.
pub moves-points : (old new : Now) {call : Call} {answer : Answer} → Moves old call answer new → leaves_points call ≡ true →
    SamePoints old new
moves-points old new move e =
    let points = step-points (on_input old.buffer old.language) old.cursor new.cursor move.step e in
    record { kept = points.0; counter = points.1 }

-- The step of a parser of the same input.
step-here : (old between : Now) {call : Call} {answer : Answer} {d : Cursor Reader} → SameInput old between →
    Step (on_input between.buffer between.language) between.cursor call answer d →
    Step (on_input old.buffer old.language) between.cursor call answer d
step-here old between input step = rw (← input.buffer, ← input.language) step

-- An event that a peek answered is the next event.
pub moves-peeked : (old between new : Now) (e : Event) (answer : Answer) → Moves old peek (event (Ok (Some e))) between →
    Moves between next answer new → answer ≡ event (Ok (Some e))
moves-peeked old between new e answer peeking move =
    step-peeked (on_input old.buffer old.language) old.cursor between.cursor new.cursor e _ answer refl peeking.step
    (step-here old between peeking.input move.step)

-- A save that answers a point keeps where the parser stands, under the next number.
pub moves-saved : (now new : Now) (n : ℕ) → Moves now save (saved (Ok n)) new →
    (now.cursor.refusal ≡ None) × (n ≡ suc now.cursor.counter) × (new ≡ with_kept now)
moves-saved now new n move =
    let (free, number, same) = step-saved (on_input now.buffer now.language) now.cursor new.cursor n _ refl move.step in
    (free, number, same_input-is now new move.input ∙ ap (with_cursor now) same)

-- A refused save changes nothing.
pub moves-unsaved : (now new : Now) (r : Refusal) → Moves now save (saved (Err r)) new → new ≡ now
moves-unsaved now new r move =
    same_cursor-is now new move.input (step-unsaved (on_input now.buffer now.language) now.cursor new.cursor r _ refl move.step)

-- A restore of a point that is not kept changes nothing.
pub moves-unknown : (now new : Now) (point : ℕ) (answer : Answer) → found point now.cursor.kept ≡ None →
    Moves now (restore point) answer new → new ≡ now
moves-unknown now new point answer none move =
    same_cursor-is now new move.input
    (step-unknown (on_input now.buffer now.language) now.cursor point new.cursor answer none move.step).1

-- One more call.
pub moves-one_more : {a b c : Now} {calls : List Call} {answers : List Answer} {call : Call} {answer : Answer} →
    MovesAll a calls answers b → Moves b call answer c → MovesAll a (calls ++ call ∷ []) (answers ++ answer ∷ []) c
moves-one_more {a = a} {b = b} {c = c} {call = call} {answer = answer} all move = record {
  input = record { buffer = move.input.buffer ∙ all.input.buffer; language = move.input.language ∙ all.input.language };
  run = run-append (on_input a.buffer a.language) all.run (one_call b.cursor c.cursor c.cursor call answer [] []
      (step-here a b all.input move.step) (no_calls c.cursor));
}
