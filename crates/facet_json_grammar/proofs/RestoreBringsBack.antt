-- Points on every input: a saved point stays what it is until it is restored, and its restore brings back where the parser stood.
use Rattle.std.proofs.Common.{◌≡◌, ◌≢◌, ℕ, suc, ◌≤◌, List, Some, None, refl, sym, ap, subst, ◌∙◌, arith}
use Rattle.std.specs.Prelude.{Result, Ok, Err, MatchResult}
use Rattle.facet_json_token.specs.Gap.{Mode}
use Rattle.facet_json_grammar.specs.Language.{lenient}
use Rattle.facet_format.specs.Complaint.{Refusal, refusal_at, save_limit}
use Rattle.facet_format.specs.Kept.{found, with_point}
use Rattle.facet_format.specs.Cursor.{Call, save, restore, Answer, saved, World, Spot, Cursor, Step, repeats, saves, saves_at_the_limit, saves_without_memory, restores, Run, no_calls, one_call, no_memory_at, back_at}
use Rattle.facet_json_grammar.specs.Reader.{Reader}
use Rattle.facet_json_grammar.specs.Now.{Now, fresh, on_input, current_span_of, SameInput}
use Rattle.facet_json_grammar.specs.Move.{Moves, MovesAll, with_kept}
use Rattle.facet_json_grammar.specs.CallLaws.{NoPoint, no_number, no_memory, NeverRestored, no_call, another, IsBack}
use Rattle.facet_format.proofs.KeptLaws.{AreUpTo, found-new, found-other, found-kept, found-used, up_to-new, up_to-used}
use Rattle.facet_json_grammar.proofs.StepLaws.{step-saved, step-restored}
use Rattle.facet_json_grammar.proofs.MoveLaws.{with_cursor, StepOf, by_step}

-- A point with this spot is kept, and its number is not greater than the counter.
record IsKept {P : Type 0} (c : Cursor P) (point : ℕ) (s : Spot P) : Type 0 where
  there : found point c.kept ≡ Some s
  numbered : point ≤ c.counter

module _ {P : Type 0} (w : World P) where
  -- Points are numbered up to the counter.
  step-up_to : (c d : Cursor P) {call : Call} {answer : Answer} → Step w c call answer d → AreUpTo c.counter c.kept →
      AreUpTo d.counter d.kept
  step-up_to c d (saves none h) up = up_to-new c.counter c.spot c.kept up
  step-up_to c d (restores point s e) up = up_to-used c.counter point c.kept up
  step-up_to c d _ up = up

  -- So they are by all calls.
  run-up_to : {c d : Cursor P} {calls : List Call} {answers : List Answer} → Run w c calls answers d → AreUpTo c.counter c.kept →
      AreUpTo d.counter d.kept
  run-up_to (no_calls c) up = up
  run-up_to (one_call c between d call answer calls answers step more) up = run-up_to more (step-up_to c between step up)

  -- A point is kept by every call but its restore.
  step-keeps : (c : Cursor P) (point : ℕ) (s : Spot P) {d : Cursor P} {call : Call} {answer : Answer} → (call ≡ restore point → ⊥) →
      Step w c call answer d → IsKept c point s → IsKept d point s
  step-keeps c point s other (saves none h) kept =
      let less : point ≢ suc c.counter = λ e. absurd (omega (arith, kept.numbered, e)) in
      record {
        there = found-other point (suc c.counter) c.spot c.kept less ∙ kept.there;
        numbered = omega (arith, kept.numbered);
      }
  step-keeps c point s other (restores q t e) kept =
      let differs : point ≢ q = λ same. other (ap restore (sym same)) in
      record { there = found-kept point q c.kept differs ∙ kept.there; numbered = kept.numbered }
  step-keeps c point s other _ kept = record { there = kept.there; numbered = kept.numbered }

  -- So it is by all calls that don't restore it.
  run-keeps : (point : ℕ) (s : Spot P) {c d : Cursor P} {calls : List Call} {answers : List Answer} → NeverRestored point calls →
      Run w c calls answers d → IsKept c point s → IsKept d point s
  run-keeps point s no_call (no_calls c) kept = kept
  run-keeps point s (another _ _ other others) (one_call c between d call answer calls answers step more) kept =
      run-keeps point s {c = between} {d = d} others more (step-keeps c point s other step kept)

  -- A point that a save answered keeps where the cursor stood.
  saved-kept : (c d : Cursor P) (point : ℕ) → found point c.kept ≡ None → Step w c save (saved (Ok point)) d → IsKept d point c.spot
  saved-kept c d point none step =
      let (free, number_is, new_is) = step-saved w c d point _ refl step in
      let unused : found (suc c.counter) c.kept ≡ None = subst (λ n. found n c.kept ≡ None) number_is none in
      let fits : found (suc c.counter) (with_point (suc c.counter) c.spot c.kept) ≡ Some c.spot =
      found-new (suc c.counter) c.spot c.kept unused in
      rw (new_is, number_is) (record { there = fits; numbered = omega arith })

-- The restore of a kept point brings back where the parser stood, with no refusal, and uses the point up.
restored-back : (at_save before new : Now) (point : ℕ) (answer : Answer) → SameInput at_save before →
    IsKept before.cursor point at_save.cursor.spot → Moves before (restore point) answer new → IsBack at_save before new point
restored-back at_save before new point answer input kept move =
    let new_is : new.cursor ≡ back_at before.cursor point at_save.cursor.spot =
    (step-restored (on_input before.buffer before.language) before.cursor point at_save.cursor.spot new.cursor answer kept.there
    move.step).1 in
    record {
      input = record { buffer = move.input.buffer ∙ input.buffer; language = move.input.language ∙ input.language };
      spot = ap (λ c. c.spot) new_is;
      unrefused = ap (λ c. c.refusal) new_is;
      counter = ap (λ c. c.counter) new_is;
      used_up = ap (λ c. found point c.kept) new_is ∙ found-used point before.cursor.kept;
      others = λ other differs. ap (λ c. found other c.kept) new_is ∙ found-kept other point before.cursor.kept differs;
    }

-- After a save that answered a point and calls that don't restore it, its restore goes back to where the parser stood.
pub saved-back : (at_save behind before new : Now) (point : ℕ) (calls : List Call) (answers : List Answer) (answer : Answer) →
    found point at_save.cursor.kept ≡ None → Moves at_save save (saved (Ok point)) behind → NeverRestored point calls →
    MovesAll behind calls answers before → Moves before (restore point) answer new → IsBack at_save before new point
saved-back at_save behind before new point calls answers answer none saving never between restoring =
    let kept = saved-kept (on_input at_save.buffer at_save.language) at_save.cursor behind.cursor point none saving.step in
    restored-back at_save before new point answer
    (record { buffer = between.input.buffer ∙ saving.input.buffer; language = between.input.language ∙ saving.input.language })
    (run-keeps (on_input behind.buffer behind.language) point at_save.cursor.spot never between.run kept) restoring

-- A save that is not refused keeps where the parser stands, or there is a reason.
abbrev IsNumbered : Now → Result ℕ Refusal → Now → Type 0
IsNumbered now result new =
    MatchResult result (λ n. (n ≡ suc now.cursor.counter) × (new ≡ with_kept now)) (λ r. NoPoint now r × (new ≡ now))

step-numbered : (now : Now) (d : Cursor Reader) (result : Result ℕ Refusal) (answer : Answer) → answer ≡ saved result →
    now.cursor.refusal ≡ None → StepOf now save answer d → IsNumbered now result (with_cursor now d)
step-numbered now d result answer a free (repeats r call _ e f) = cc
step-numbered now d (Ok n) answer a free (saves none h) = (cc, refl)
step-numbered now d (Ok n) answer a free (saves_at_the_limit none e) = cc
step-numbered now d (Ok n) answer a free (saves_without_memory none h) = cc
step-numbered now d (Err r) answer a free (saves none h) = cc
step-numbered now d (Err r) answer a free (saves_at_the_limit none e) =
    let same : r ≡ refusal_at save_limit (current_span_of now) = cc in rw same (no_number e, refl)
step-numbered now d (Err r) answer a free (saves_without_memory none h) =
    let same : r ≡ no_memory_at (current_span_of now) = cc in rw same (no_memory h, refl)

pub moves-numbered : (now new : Now) (result : Result ℕ Refusal) → now.cursor.refusal ≡ None → Moves now save (saved result) new →
    MatchResult result (λ n. (n ≡ suc now.cursor.counter) × (new ≡ with_kept now)) (λ r. NoPoint now r × (new ≡ now))
moves-numbered now new result free move =
    by_step (IsNumbered now result) now new move (λ d step. step-numbered now d result _ refl free step)

-- After whatever calls of a new parser no point has the next number.
pub numbers-new : (buffer : List ℕ) (mode : Mode) (now : Now) (calls : List Call) (answers : List Answer) →
    MovesAll (fresh buffer mode) calls answers now → found (suc now.cursor.counter) now.cursor.kept ≡ None
numbers-new buffer mode now calls answers all =
    run-up_to (on_input buffer (lenient mode)) all.run (λ number less. refl) (suc now.cursor.counter) (omega arith)
