-- Laws of a cursor's steps, whatever its places: what is kept, what is repeated, a peek is the next event, save and restore.
use Rattle.std.proofs.Common.{◌≡◌, ℕ, zero, suc, Bool, true, false, List, [], ◌∷◌, ◌++◌, Some, None, refl, sym, ap}
use Rattle.std.specs.Prelude.{Ok, Err}
use Rattle.facet_format.specs.Complaint.{Refusal}
use Rattle.facet_format.specs.Event.{Event, Passed}
use Rattle.facet_format.specs.Kept.{found}
use Rattle.facet_format.specs.Cursor.{Call, next, peek, events, skip, capture, save, restore, span, Answer, event, saved, restored, World, Spot, Cursor, Comes, no_event, one_event, Step, repeats, passes, passes_without_memory, passes_the_end, passes_nothing, peeks, peeks_without_memory, peeks_at_the_end, peeks_at_nothing, gives_none, gives, gives_up, gives_without_memory, skips, skips_without_memory, skips_nothing, captures, captures_without_memory, captures_nothing, saves, saves_at_the_limit, saves_without_memory, restores, restores_nothing, tells, Run, no_calls, one_call, repeated, an_event, kept_here, back_at}

-- the call leaves the points as they are
abbrev pub leaves_points : Call → Bool
leaves_points save = false
leaves_points (restore point) = false
leaves_points _ = true

-- the call leaves a refusal as it is
abbrev pub leaves_refusal : Call → Bool
leaves_refusal (restore point) = false
leaves_refusal _ = true

module _ {P : Type 0} (w : World P) where
  -- One more event comes.
  pub Comes-one_more : {place mid : P} {given : List Event} (p : Passed) → Comes w place given mid → w.comes mid ≡ an_event p →
      Comes w place (given ++ p.event ∷ []) (w.past p mid)
  Comes-one_more p (no_event mid) e = one_event mid (w.past p mid) p [] e (no_event (w.past p mid))
  Comes-one_more p (one_event place mid q others f more) e =
      one_event place (w.past p mid) q (others ++ p.event ∷ []) f (Comes-one_more p more e)

  -- Every call but a save and a restore leaves the points and the counter.
  pub step-points : (c d : Cursor P) {call : Call} {answer : Answer} → Step w c call answer d → leaves_points call ≡ true →
      (d.kept ≡ c.kept) × (d.counter ≡ c.counter)
  step-points c d (saves none h) e = cc
  step-points c d (restores point s f) e = cc
  step-points c d _ e = (refl, refl)

  -- A refused cursor repeats its refusal, and nothing changes.
  pub step-repeats : (c d : Cursor P) (r : Refusal) (call : Call) (answer told : Answer) → Step w c call answer d →
      c.refusal ≡ Some r → repeated r call ≡ Some told → (answer ≡ told) × (d ≡ c)
  step-repeats c d r call answer told (repeats q _ _ e a) f t =
      let same : q ≡ r = cc in
      (cc, refl)
  step-repeats c d r call answer told (passes p none comes) f t = cc
  step-repeats c d r call answer told (passes_without_memory p none comes takes off) f t = cc
  step-repeats c d r call answer told (passes_the_end none e) f t = cc
  step-repeats c d r call answer told (passes_nothing q none e so) f t = cc
  step-repeats c d r call answer told (peeks p none comes) f t = cc
  step-repeats c d r call answer told (peeks_without_memory p none comes takes) f t = cc
  step-repeats c d r call answer told (peeks_at_the_end none e) f t = cc
  step-repeats c d r call answer told (peeks_at_nothing q none e so) f t = cc
  step-repeats c d r call answer told gives_none f t = cc
  step-repeats c d r call answer told (gives k n given place none all count le over) f t = cc
  step-repeats c d r call answer told (gives_without_memory k given place p spot none all le more there) f t = cc
  step-repeats c d r call answer told (gives_up k given place q none all le stops so) f t = cc
  step-repeats c d r call answer told (skips part place none stands is) f t = cc
  step-repeats c d r call answer told (skips_without_memory part none stands opens) f t = cc
  step-repeats c d r call answer told (skips_nothing part q none stands is) f t = cc
  step-repeats c d r call answer told (captures part text place none stands is) f t = cc
  step-repeats c d r call answer told (captures_without_memory part none stands opens) f t = cc
  step-repeats c d r call answer told (captures_nothing part q none stands is) f t = cc
  step-repeats c d r call answer told (saves none h) f t = cc
  step-repeats c d r call answer told (saves_at_the_limit none e) f t = cc
  step-repeats c d r call answer told (saves_without_memory none h) f t = cc
  step-repeats c d r call answer told (restores point s e) f t = cc
  step-repeats c d r call answer told (restores_nothing point e) f t = cc
  step-repeats c d r call answer told tells f t = cc

  -- Until a restore a refused cursor stays as it is.
  pub step-refused : (c d : Cursor P) (r : Refusal) (call : Call) (answer : Answer) → Step w c call answer d →
      leaves_refusal call ≡ true → c.refusal ≡ Some r → d ≡ c
  step-refused c d r next answer step l f = (step-repeats c d r next answer _ step f refl).1
  step-refused c d r peek answer step l f = (step-repeats c d r peek answer _ step f refl).1
  step-refused c d r (events zero) answer (repeats q _ _ e a) l f = refl
  step-refused c d r (events zero) answer gives_none l f = refl
  step-refused c d r (events (suc k)) answer step l f = (step-repeats c d r (events (suc k)) answer _ step f refl).1
  step-refused c d r skip answer step l f = (step-repeats c d r skip answer _ step f refl).1
  step-refused c d r capture answer step l f = (step-repeats c d r capture answer _ step f refl).1
  step-refused c d r save answer step l f = (step-repeats c d r save answer _ step f refl).1
  step-refused c d r (restore point) answer step l f = cc
  step-refused c d r span answer (repeats q _ _ e a) l f = refl
  step-refused c d r span answer tells l f = refl

  -- An event that a peek answered is the next event.
  pub step-peeked : (c mid d : Cursor P) (e : Event) (shown answer : Answer) → shown ≡ event (Ok (Some e)) →
      Step w c peek shown mid → Step w mid next answer d → answer ≡ shown
  step-peeked c mid d e shown answer s (peeks p none comes) (repeats r call a f g) = cc
  step-peeked c mid d e shown answer s (peeks p none comes) (passes q n goes) =
      let same : p ≡ q = cc in
      ap (λ x. event (Ok (Some x.event))) (sym same)
  step-peeked c mid d e shown answer s (peeks p none comes) (passes_without_memory q n goes takes off) = cc
  step-peeked c mid d e shown answer s (peeks p none comes) (passes_the_end n goes) = cc
  step-peeked c mid d e shown answer s (peeks p none comes) (passes_nothing r n goes so) = cc
  step-peeked c mid d e shown answer s (repeats r call a f g) second = cc
  step-peeked c mid d e shown answer s _ second = cc

  -- A save that answers a point keeps where the cursor stands, under the next number.
  pub step-saved : (c d : Cursor P) (n : ℕ) (answer : Answer) → answer ≡ saved (Ok n) → Step w c save answer d →
      (c.refusal ≡ None) × (n ≡ suc c.counter) × (d ≡ kept_here c)
  step-saved c d n answer s (repeats r call a f g) = cc
  step-saved c d n answer s (saves none h) = (none, cc, refl)
  step-saved c d n answer s _ = cc

  -- A refused save changes nothing.
  pub step-unsaved : (c d : Cursor P) (r : Refusal) (answer : Answer) → answer ≡ saved (Err r) → Step w c save answer d → d ≡ c
  step-unsaved c d r answer s (saves none h) = cc
  step-unsaved c d r answer s _ = refl

  -- A restore of a kept point brings back where the cursor stood.
  pub step-restored : (c : Cursor P) (point : ℕ) (s : Spot P) (d : Cursor P) (answer : Answer) → found point c.kept ≡ Some s →
      Step w c (restore point) answer d → (answer ≡ restored) × (d ≡ back_at c point s)
  step-restored c point s d answer e (repeats r call a f g) = cc
  step-restored c point s d answer e (restores q t f) =
      let same : t ≡ s = cc in
      (refl, ap (back_at c point) same)
  step-restored c point s d answer e (restores_nothing q f) = cc

  -- A restore of another point changes nothing.
  pub step-unknown : (c : Cursor P) (point : ℕ) (d : Cursor P) (answer : Answer) → found point c.kept ≡ None →
      Step w c (restore point) answer d → (answer ≡ restored) × (d ≡ c)
  step-unknown c point d answer e (repeats r call a f g) = cc
  step-unknown c point d answer e (restores q t f) = cc
  step-unknown c point d answer e (restores_nothing q f) = (refl, refl)

  -- Calls after calls.
  pub run-append : {a b c : Cursor P} {first second : List Call} {these those : List Answer} → Run w a first these b →
      Run w b second those c → Run w a (first ++ second) (these ++ those) c
  run-append (no_calls a) more = more
  run-append (one_call a between last call answer calls answers step rest) more =
      one_call a between _ call answer _ _ step (run-append rest more)
