-- A refused parser on every input: it repeats its refusal, and nothing changes, until a point that is kept is restored.
use Rattle.std.proofs.Common.{◌≡◌, ℕ, zero, suc, List, [], Some, None, refl, sym, ap, ◌∙◌, subst}
use Rattle.std.specs.Prelude.{Err}
use Rattle.facet_format.specs.Complaint.{Refusal}
use Rattle.facet_format.specs.Kept.{found}
use Rattle.facet_format.specs.Cursor.{Call, next, peek, events, skip, capture, save, restore, span, Answer, event, batch, skipped, raw, saved, World, Cursor, Step, repeats, passes, passes_without_memory, passes_the_end, passes_nothing, peeks, peeks_without_memory, peeks_at_the_end, peeks_at_nothing, gives_none, gives, gives_up, gives_without_memory, skips, skips_without_memory, skips_nothing, captures, captures_without_memory, captures_nothing, saves, saves_at_the_limit, saves_without_memory, restores, restores_nothing, tells, Run, no_calls, one_call, repeated}
use Rattle.facet_json_grammar.specs.Reader.{Reader}
use Rattle.facet_json_grammar.specs.Now.{Now, on_input}
use Rattle.facet_json_grammar.specs.Move.{Moves, MovesAll}
use Rattle.facet_json_grammar.specs.CallLaws.{refusal_in, RestoresNone, no_call, another, AllRepeat}
use Rattle.facet_json_grammar.specs.CallLaws as laws
use Rattle.facet_json_grammar.proofs.StepLaws.{step-repeats, step-refused, step-unknown}
use Rattle.facet_json_grammar.proofs.MoveLaws.{same_cursor-is}

-- A repeated refusal is the one that is repeated.
repeats-same : (q r : Refusal) (call : Call) (answer : Answer) → repeated q call ≡ Some answer → refusal_in answer ≡ Some r → q ≡ r
repeats-same q r next answer e f = let same : event (Err q) ≡ answer = cc in cc
repeats-same q r peek answer e f = let same : event (Err q) ≡ answer = cc in cc
repeats-same q r (events zero) answer e f = cc
repeats-same q r (events (suc k)) answer e f = let same : batch [] (Err q) ≡ answer = cc in cc
repeats-same q r skip answer e f = let same : skipped (Err q) ≡ answer = cc in cc
repeats-same q r capture answer e f = let same : raw (Err q) ≡ answer = cc in cc
repeats-same q r save answer e f = let same : saved (Err q) ≡ answer = cc in cc
repeats-same q r (restore point) answer e f = cc
repeats-same q r span answer e f = cc

-- A call for events, a skip or a capture that is refused leaves the cursor refused so.
step-sticks : {P : Type 0} (w : World P) (c d : Cursor P) {call : Call} {answer : Answer} (r : Refusal) → Step w c call answer d →
    refusal_in answer ≡ Some r → d.refusal ≡ Some r
step-sticks w c d r (repeats q call answer e a) f = e ∙ ap Some (repeats-same q r call answer a f)
step-sticks w c d r (passes p none comes) f = cc
step-sticks w c d r (passes_without_memory p none comes takes off) f = f
step-sticks w c d r (passes_the_end none e) f = cc
step-sticks w c d r (passes_nothing q none e so) f = f
step-sticks w c d r (peeks p none comes) f = cc
step-sticks w c d r (peeks_without_memory p none comes takes) f = f
step-sticks w c d r (peeks_at_the_end none e) f = cc
step-sticks w c d r (peeks_at_nothing q none e so) f = f
step-sticks w c d r gives_none f = cc
step-sticks w c d r (gives k n given place none all count le over) f = cc
step-sticks w c d r (gives_without_memory k given place p spot none all le more there) f = f
step-sticks w c d r (gives_up k given place q none all le stops so) f = f
step-sticks w c d r (skips part place none stands is) f = cc
step-sticks w c d r (skips_without_memory part none stands opens) f = f
step-sticks w c d r (skips_nothing part q none stands is) f = f
step-sticks w c d r (captures part text place none stands is) f = cc
step-sticks w c d r (captures_without_memory part none stands opens) f = f
step-sticks w c d r (captures_nothing part q none stands is) f = f
step-sticks w c d r (saves none h) f = cc
step-sticks w c d r (saves_at_the_limit none e) f = cc
step-sticks w c d r (saves_without_memory none h) f = cc
step-sticks w c d r (restores point s e) f = cc
step-sticks w c d r (restores_nothing point e) f = cc
step-sticks w c d r tells f = cc

-- A call for events, a skip or a capture that is refused leaves the parser refused so.
pub refused-sticks : (old new : Now) (call : Call) (answer : Answer) (r : Refusal) → Moves old call answer new →
    refusal_in answer ≡ Some r → new.cursor.refusal ≡ Some r
refused-sticks old new call answer r move refused = step-sticks (on_input old.buffer old.language) old.cursor new.cursor r move.step refused

module _ (w : World Reader) where
  -- A call that restores no kept point leaves a refused cursor as it is.
  step-stays : (c d : Cursor Reader) (r : Refusal) (call : Call) (answer : Answer) → c.refusal ≡ Some r →
      ((point : ℕ) → call ≡ restore point → found point c.kept ≡ None) → Step w c call answer d → d ≡ c
  step-stays c d r next answer f none step = step-refused w c d r next answer step refl f
  step-stays c d r peek answer f none step = step-refused w c d r peek answer step refl f
  step-stays c d r (events n) answer f none step = step-refused w c d r (events n) answer step refl f
  step-stays c d r skip answer f none step = step-refused w c d r skip answer step refl f
  step-stays c d r capture answer f none step = step-refused w c d r capture answer step refl f
  step-stays c d r save answer f none step = step-refused w c d r save answer step refl f
  step-stays c d r (restore point) answer f none step = (step-unknown w c point d answer (none point refl) step).1
  step-stays c d r span answer f none step = step-refused w c d r span answer step refl f

  -- A refused cursor repeats its refusal, and stays as it is, by all calls that restore no kept point.
  run-repeats : {c d : Cursor Reader} {calls : List Call} {answers : List Answer} (r : Refusal) → c.refusal ≡ Some r →
      RestoresNone c.kept calls → Run w c calls answers d → AllRepeat r calls answers × (d ≡ c)
  run-repeats r f no_call (no_calls c) = (laws.no_call, refl)
  run-repeats r f (another _ _ none others) (one_call c between d call answer calls answers step more) =
      let same = step-stays c between r call answer f none step in
      let rest = run-repeats r (ap (λ n. n.refusal) same ∙ f) (subst (λ n. RestoresNone n.kept calls) (sym same) others) more in
      let here : (told : Answer) → repeated r call ≡ Some told → answer ≡ told =
      λ told e. (step-repeats w c between r call answer told step f e).0 in
      (laws.one_call call answer calls answers here rest.0, rest.1 ∙ same)

-- Once a call for events, a skip or a capture is refused, the parser repeats that refusal and stays as it is.
pub refused-repeats : (old stopped new : Now) (call : Call) (answer : Answer) (r : Refusal) (calls : List Call)
    (answers : List Answer) → Moves old call answer stopped → refusal_in answer ≡ Some r → RestoresNone stopped.cursor.kept calls →
    MovesAll stopped calls answers new → AllRepeat r calls answers × (new ≡ stopped)
refused-repeats old stopped new call answer r calls answers move refused none all =
    let sticks = refused-sticks old stopped call answer r move refused in
    let (repeat, same) = run-repeats (on_input stopped.buffer stopped.language) r sticks none all.run in
    (repeat, same_cursor-is stopped new all.input same)
