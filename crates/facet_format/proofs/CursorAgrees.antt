-- A cursor answers in one way where memory is ample, so two answers to a call are one, or one of them is out of memory.
use Rattle.std.proofs.Common.{◌≡◌, ◌≢◌, ℕ, zero, suc, ◌<◌, ◌≤◌, ◌==◌, cond, List, [], ◌∷◌, length, Option, Some, None, refl, sym, ap, ◌∙◌, subst, arith}
use Rattle.std.specs.Prelude.{Result, Ok, Err}
use Rattle.std.proofs.lemmas.Bool.{eq-eqb, ne_eqb}
use Rattle.std.proofs.lemmas.Option.{none-some, same_Some}
use Rattle.facet_format.specs.Complaint.{Refusal, refusal_at, save_limit}
use Rattle.facet_format.specs.Event.{Event, Passed}
use Rattle.facet_format.specs.Kept.{found}
use Rattle.facet_format.specs.Part.{Part, skip_of, capture_of}
use Rattle.facet_format.specs.Cursor.{Upcoming, an_event, the_end, a_refusal, World, Call, next, peek, events, skip, capture, save, restore, span, Answer, event, batch, skipped, raw, saved, restored, spans, Spot, Cursor, Comes, Step, repeats, passes, passes_without_memory, passes_the_end, passes_nothing, peeks, peeks_without_memory, peeks_at_the_end, peeks_at_nothing, gives_none, gives, gives_without_memory, gives_up, skips, skips_without_memory, skips_nothing, captures, captures_without_memory, captures_nothing, saves, saves_at_the_limit, saves_without_memory, restores, restores_nothing, tells, repeated, current_span, unpeeked, peeked_at, spot_after, at_spot, refused_at, kept_here, back_at, greatest, Run, no_calls, one_call}
use Rattle.facet_format.specs.Cursor as cursor
use Rattle.facet_format.specs.Agree.{AnswerLacksMemory, no_event, no_more, no_skip, no_capture, no_point, Agree, lacks, other_lacks, is_one, AgreeToLack, no_answers, first_lacks, second_lacks, same_answer}
use Rattle.facet_format.specs.Laws.{PassesUnread, by_skip, by_capture}
use Rattle.facet_format.proofs.CursorSteps.{same-event}

-- ---- what is met at a place

-- an event, the end, or a refusal
abbrev Met : Type 0
Met = Result (Option Passed) Refusal

-- This is met at the place.
abbrev Meets : {P : Type 0} → World P → P → Met → Type 0
Meets w place (Ok (Some p)) = w.comes place ≡ an_event p
Meets w place (Ok None) = w.comes place ≡ the_end
Meets w place (Err r) = (w.comes place ≡ a_refusal) × w.refuses place r

-- These events end a batch: they are as many as are asked for, or there is no other.
data Ends {P : Type 0} (w : World P) (k : ℕ) (given : List Event) (place : P) : Result ℕ Refusal → Type 0 where
  ends_well : (n : ℕ) → n ≡ length given → n ≤ suc k → (n ≤ k → w.comes place ≡ the_end) → Ends w k given place (Ok n)
  ends_badly : (r : Refusal) → length given ≤ k → w.comes place ≡ a_refusal → w.refuses place r → Ends w k given place (Err r)

-- No event comes.
abbrev Stops : Upcoming → Type 0
Stops what = (p : Passed) → what ≡ an_event p → ⊥

stops_at_the_end : (what : Upcoming) → what ≡ the_end → Stops what
stops_at_the_end what e p up = let no : the_end ≡ an_event p = sym e ∙ up in cc

stops_at_nothing : (what : Upcoming) → what ≡ a_refusal → Stops what
stops_at_nothing what e p up = let no : a_refusal ≡ an_event p = sym e ∙ up in cc

-- ---- one answer where memory is ample

module _ {P : Type 0} (w : World P) where
  -- an answer, and the cursor after it
  abbrev Outcome : Type 0
  Outcome = Answer × Cursor P

  abbrev next_by : Cursor P → Met → Outcome
  next_by c (Ok (Some p)) = (event (Ok (Some p.event)), at_spot c (unpeeked (w.past p c.spot.place)))
  next_by c (Ok None) = (event (Ok None), c)
  next_by c (Err r) = (event (Err r), refused_at c c.spot r)

  abbrev peek_by : Cursor P → Met → Outcome
  peek_by c (Ok (Some p)) = (event (Ok (Some p.event)), at_spot c (peeked_at c.spot))
  peek_by c (Ok None) = (event (Ok None), c)
  peek_by c (Err r) = (event (Err r), refused_at c c.spot r)

  abbrev batch_by : Cursor P → List Event → P → Result ℕ Refusal → Outcome
  batch_by c given place (Ok n) = (batch given (Ok n), at_spot c (spot_after given place c.spot))
  batch_by c given place (Err r) = (batch given (Err r), refused_at c (spot_after given place c.spot) r)

  abbrev skip_by : Cursor P → Result P Refusal → Outcome
  skip_by c (Ok place) = (skipped (Ok tt), at_spot c (unpeeked place))
  skip_by c (Err r) = (skipped (Err r), refused_at c c.spot r)

  abbrev capture_by : Cursor P → Result (List ℕ × P) Refusal → Outcome
  capture_by c (Ok found) = (raw (Ok (Some found.0)), at_spot c (unpeeked found.1))
  capture_by c (Err r) = (raw (Err r), refused_at c c.spot r)

  abbrev save_by : Cursor P → Outcome
  save_by c =
      let full = saved (Err (refusal_at save_limit (current_span w c.spot))) in
      cond (c.counter == greatest) (full, c) (saved (Ok (suc c.counter)), kept_here c)

  abbrev restore_by : Cursor P → ℕ → Option (Spot P) → Outcome
  restore_by c point None = (restored, c)
  restore_by c point (Some spot) = (restored, back_at c point spot)

  -- The answer and the cursor after it are these.
  abbrev Is : Answer → Cursor P → Outcome → Type 0
  Is a d outcome = (a ≡ outcome.0) × (d ≡ outcome.1)

  -- The answer and the cursor after it, where memory is ample and no refusal is repeated.
  abbrev IsFree : Cursor P → Call → Answer → Cursor P → Type 0
  IsFree c next a d = (x : Met) × Meets w c.spot.place x × Is a d (next_by c x)
  IsFree c peek a d = (x : Met) × Meets w c.spot.place x × Is a d (peek_by c x)
  IsFree c (events zero) a d = Is a d (batch [] (Ok 0), c)
  IsFree c (events (suc k)) a d =
      (given : List Event) × (place : P) × (x : Result ℕ Refusal) × Comes w c.spot.place given place × Ends w k given place x ×
      Is a d (batch_by c given place x)
  IsFree c skip a d = (part : Part P) × w.stands c.spot.place part × Is a d (skip_by c (skip_of part))
  IsFree c capture a d = (part : Part P) × w.stands c.spot.place part × Is a d (capture_by c (capture_of w.bytes part))
  IsFree c save a d = Is a d (save_by c)
  IsFree c (restore point) a d = Is a d (restore_by c point (found point c.kept))
  IsFree c span a d = Is a d (spans (Some (current_span w c.spot)), c)

-- the answer that repeats a refusal
abbrev told : Option Refusal → Call → Option Answer
told None call = None
told (Some r) call = repeated r call

-- Where a call repeats no refusal, it is as if there were none.
untold : (refusal : Option Refusal) (call : Call) → ((r : Refusal) → repeated r call ≡ None) → told refusal call ≡ None
untold None call none = refl
untold (Some r) call none = none r

-- The answer is out of memory, repeats a refusal, or is free.
data Shows {P : Type 0} (w : World P) (c : Cursor P) (call : Call) (a : Answer) (d : Cursor P) : Type 0 where
  is_lack : AnswerLacksMemory a → Shows w c call a d
  is_told : told c.refusal call ≡ Some a → d ≡ c → Shows w c call a d
  is_free : told c.refusal call ≡ None → IsFree w c call a d → Shows w c call a d

module _ {P : Type 0} (w : World P) (c : Cursor P) where
  unrefused : (call : Call) {a : Answer} {d : Cursor P} → c.refusal ≡ None → IsFree w c call a d → Shows w c call a d
  unrefused call none is = is_free (rw none refl) is

  -- Each answer is so.
  step-shows : {call : Call} {a : Answer} {d : Cursor P} → Step w c call a d → Shows w c call a d
  step-shows (repeats r call answer is repeats_it) = is_told (rw is repeats_it) refl
  step-shows (passes p none up) = unrefused next none (Ok (Some p), up, (refl, refl))
  step-shows (passes_without_memory p none up takes unseen) = is_lack (no_event _ refl)
  step-shows (passes_the_end none up) = unrefused next none (Ok None, up, (refl, refl))
  step-shows (passes_nothing r none up refuses) = unrefused next none (Err r, (up, refuses), (refl, refl))
  step-shows (peeks p none up) = unrefused peek none (Ok (Some p), up, (refl, refl))
  step-shows (peeks_without_memory p none up takes) = is_lack (no_event _ refl)
  step-shows (peeks_at_the_end none up) = unrefused peek none (Ok None, up, (refl, refl))
  step-shows (peeks_at_nothing r none up refuses) = unrefused peek none (Err r, (up, refuses), (refl, refl))
  step-shows gives_none = is_free (untold c.refusal (events 0) (λ r. refl)) (refl, refl)
  step-shows (gives k n given place none all count most ends) =
      unrefused (events (suc k)) none (given, place, Ok n, all, ends_well n count most ends, (refl, refl))
  step-shows (gives_without_memory k given place p spot none all le up is) = is_lack (no_more _ _ refl)
  step-shows (gives_up k given place r none all le up refuses) =
      unrefused (events (suc k)) none (given, place, Err r, all, ends_badly r le up refuses, (refl, refl))
  step-shows (skips part place none stands leads) = unrefused skip none (part, stands, rw leads (refl, refl))
  step-shows (skips_without_memory part none stands takes) = is_lack (no_skip _ refl)
  step-shows (skips_nothing part r none stands stops) = unrefused skip none (part, stands, rw stops (refl, refl))
  step-shows (captures part text place none stands leads) = unrefused capture none (part, stands, rw leads (refl, refl))
  step-shows (captures_without_memory part none stands takes) = is_lack (no_capture _ refl)
  step-shows (captures_nothing part r none stands stops) = unrefused capture none (part, stands, rw stops (refl, refl))
  step-shows (saves none less) =
      let other : c.counter ≢ greatest = λ e. absurd (omega (arith, e)) in
      unrefused save none (rw (ne_eqb c.counter greatest other) (refl, refl))
  step-shows (saves_at_the_limit none e) = unrefused save none (rw (eq-eqb c.counter greatest e) (refl, refl))
  step-shows (saves_without_memory none less) = is_lack (no_point _ refl)
  step-shows (restores point spot e) = is_free (untold c.refusal (restore point) (λ r. refl)) (rw e (refl, refl))
  step-shows (restores_nothing point e) = is_free (untold c.refusal (restore point) (λ r. refl)) (rw e (refl, refl))
  step-shows tells = is_free (untold c.refusal span (λ r. refl)) (refl, refl)

module _ {P : Type 0} (w : World P) where
  -- A batch is not too long.
  ends-within : {k : ℕ} {given : List Event} {place : P} {x : Result ℕ Refusal} → Ends w k given place x → length given ≤ suc k
  ends-within (ends_well n count most ends) = omega (arith, count)
  ends-within (ends_badly r le up refuses) = omega (arith, le)

  -- Where it is too short, no event comes.
  ends-stops : {k : ℕ} {given : List Event} {place : P} {x : Result ℕ Refusal} → Ends w k given place x → length given < suc k →
      Stops (w.comes place)
  ends-stops {place = place} (ends_well n count most ends) less = stops_at_the_end (w.comes place) (ends (omega (arith, count)))
  ends-stops {place = place} (ends_badly r le up refuses) less = stops_at_nothing (w.comes place) up

  -- Two lists of events that come from one place, and can't be longer, are one.
  one-batch : (n : ℕ) {place there here : P} {given others : List Event} → Comes w place given there →
      Comes w place others here → length given ≤ n → length others ≤ n → (length given < n → Stops (w.comes there)) →
      (length others < n → Stops (w.comes here)) → (given ≡ others) × (there ≡ here)
  one-batch n (cursor.no_event _) (cursor.no_event _) g o stops ends = (refl, refl)
  one-batch n (cursor.no_event _) (cursor.one_event place after p others up more) g o stops ends = absurd (stops (omega arith) p up)
  one-batch n (cursor.one_event place after p given up more) (cursor.no_event _) g o stops ends = absurd (ends (omega arith) p up)
  one-batch zero (cursor.one_event _ _ _ _ _ _) (cursor.one_event _ _ _ _ _ _) g o stops ends = absurd (omega (arith, g))
  one-batch (suc n) (cursor.one_event place _ p _ up more) (cursor.one_event _ last q others up_too more_too) g o stops ends =
      let same : q ≡ p = same-event q p up_too up in
      let from : Comes w (w.past p place) others last = subst (λ x. Comes w (w.past x place) others last) same more_too in
      let rest =
      one-batch n more from (omega (arith, g)) (omega (arith, o)) (λ less. stops (omega (arith, less)))
      (λ less. ends (omega (arith, less))) in
      (rw (same, rest.0) refl, rest.1)

module _ {P : Type 0} (w : World P) (only : (place : P) (r q : Refusal) → w.refuses place r → w.refuses place q → r ≡ q)
    (one : (place : P) (a b : Part P) → w.stands place a → w.stands place b → a ≡ b) where
  -- One thing is met at a place.
  one-met : (place : P) (x y : Met) → Meets w place x → Meets w place y → x ≡ y
  one-met place (Ok (Some p)) (Ok (Some q)) up up_too = ap (λ (e : Passed). Ok (Some e)) (same-event p q up up_too)
  one-met place (Ok (Some p)) (Ok None) up up_too = let no : an_event p ≡ the_end = sym up ∙ up_too in cc
  one-met place (Ok (Some p)) (Err q) up up_too = let no : an_event p ≡ a_refusal = sym up ∙ up_too.0 in cc
  one-met place (Ok None) (Ok (Some q)) up up_too = let no : the_end ≡ an_event q = sym up ∙ up_too in cc
  one-met place (Ok None) (Ok None) up up_too = refl
  one-met place (Ok None) (Err q) up up_too = let no : the_end ≡ a_refusal = sym up ∙ up_too.0 in cc
  one-met place (Err r) (Ok (Some q)) up up_too = let no : a_refusal ≡ an_event q = sym up.0 ∙ up_too in cc
  one-met place (Err r) (Ok None) up up_too = let no : a_refusal ≡ the_end = sym up.0 ∙ up_too in cc
  one-met place (Err r) (Err q) up up_too = ap (λ (x : Refusal). Err x) (only place r q up.1 up_too.1)

  -- A batch ends in one way.
  one-end : {k : ℕ} {given : List Event} {place : P} {x y : Result ℕ Refusal} → Ends w k given place x →
      Ends w k given place y → x ≡ y
  one-end (ends_well n count most ends) (ends_well m count_too _ _) = ap (λ (i : ℕ). Ok i) (count ∙ sym count_too)
  one-end (ends_well n count most ends) (ends_badly r le up refuses) =
      let no : the_end ≡ a_refusal = sym (ends (omega (arith, count, le))) ∙ up in cc
  one-end (ends_badly r le up refuses) (ends_well n count most ends) =
      let no : the_end ≡ a_refusal = sym (ends (omega (arith, count, le))) ∙ up in cc
  one-end {place = place} (ends_badly r le up refuses) (ends_badly q _ _ refuses_too) =
      ap (λ (x : Refusal). Err x) (only place r q refuses refuses_too)

  agree_by : {a b : Answer} {d e : Cursor P} {x y : Outcome w} → Is w a d x → Is w b e y → x ≡ y → Agree a b d e
  agree_by is other same =
      is_one (is.0 ∙ ap (λ (o : Outcome w). o.0) same ∙ sym other.0) (is.1 ∙ ap (λ (o : Outcome w). o.1) same ∙ sym other.1)

  -- Two free answers are one.
  free-agree : (c : Cursor P) (call : Call) {a b : Answer} {d e : Cursor P} → IsFree w c call a d → IsFree w c call b e →
      Agree a b d e
  free-agree c next (x, met, is) (y, met_too, is_too) = agree_by is is_too (ap (next_by w c) (one-met c.spot.place x y met met_too))
  free-agree c peek (x, met, is) (y, met_too, is_too) = agree_by is is_too (ap (peek_by w c) (one-met c.spot.place x y met met_too))
  free-agree c (events zero) is is_too = agree_by is is_too refl
  free-agree c (events (suc k)) (given, place, x, all, ends, is) (others, here, y, all_too, ends_too, is_too) =
      let same =
      one-batch w (suc k) all all_too (ends-within w ends) (ends-within w ends_too) (ends-stops w ends) (ends-stops w ends_too) in
      let there : Ends w k given place y = rw (same.0, same.1) ends_too in
      let end : x ≡ y = one-end ends there in
      agree_by is is_too (rw (same.0, same.1, end) refl)
  free-agree c skip (part, stands, is) (other, stands_too, is_too) =
      agree_by is is_too (ap (λ x. skip_by w c (skip_of x)) (one c.spot.place part other stands stands_too))
  free-agree c capture (part, stands, is) (other, stands_too, is_too) =
      agree_by is is_too (ap (λ x. capture_by w c (capture_of w.bytes x)) (one c.spot.place part other stands stands_too))
  free-agree c save is is_too = agree_by is is_too refl
  free-agree c (restore point) is is_too = agree_by is is_too refl
  free-agree c span is is_too = agree_by is is_too refl

  -- Two answers are one, out of memory aside.
  shown-agree : (c : Cursor P) (call : Call) {a b : Answer} {d e : Cursor P} → Shows w c call a d → Shows w c call b e →
      Agree a b d e
  shown-agree c call (is_lack l) other = lacks l
  shown-agree c call (is_told t same) (is_lack l) = other_lacks l
  shown-agree c call (is_told t same) (is_told u other) = is_one (same_Some _ _ (sym t ∙ u)) (same ∙ sym other)
  shown-agree c call (is_told t same) (is_free none is) = absurd (none-some _ (sym none ∙ t))
  shown-agree c call (is_free none is) (is_lack l) = other_lacks l
  shown-agree c call (is_free none is) (is_told t same) = absurd (none-some _ (sym none ∙ t))
  shown-agree c call (is_free none is) (is_free _ other) = free-agree c call is other

  -- Two answers to a call are one, out of memory aside.
  pub step-agrees : (c d e : Cursor P) (call : Call) (a b : Answer) → Step w c call a d → Step w c call b e → Agree a b d e
  step-agrees c d e call a b first second = shown-agree c call (step-shows w c first) (step-shows w c second)

-- ---- a skip or capture after a peek

-- Two answers are one, out of memory aside.
same_told : {a b : Answer} → a ≡ b → AgreeToLack (a ∷ []) (b ∷ [])
same_told {a = a} e = rw (← e) (same_answer a [] [] no_answers)

module _ {P : Type 0} (w : World P) (one : (place : P) (a b : Part P) → w.stands place a → w.stands place b → a ≡ b) where
  -- What a skip answers doesn't depend on the cursor it is made at, but for where it is.
  skip_answer : (c d : Cursor P) (x : Result P Refusal) → (skip_by w c x).0 ≡ (skip_by w d x).0
  skip_answer c d (Ok place) = refl
  skip_answer c d (Err r) = refl

  capture_answer : (c d : Cursor P) (x : Result (List ℕ × P) Refusal) → (capture_by w c x).0 ≡ (capture_by w d x).0
  capture_answer c d (Ok found) = refl
  capture_answer c d (Err r) = refl

  -- Free answers of two cursors at one place are one.
  unread-answer : (c d e f : Cursor P) (call : Call) {a b : Answer} → PassesUnread call → c.spot.place ≡ d.spot.place →
      IsFree w c call a e → IsFree w d call b f → a ≡ b
  unread-answer c d e f _ by_skip here (part, stands, is) (other, stands_too, is_too) =
      let same = one d.spot.place part other (rw (← here) stands) stands_too in
      is.0 ∙ skip_answer c d (skip_of part) ∙ ap (λ x. (skip_by w d (skip_of x)).0) same ∙ sym is_too.0
  unread-answer c d e f _ by_capture here (part, stands, is) (other, stands_too, is_too) =
      let same = one d.spot.place part other (rw (← here) stands) stands_too in
      is.0 ∙ capture_answer c d (capture_of w.bytes part) ∙ ap (λ x. (capture_by w d (capture_of w.bytes x)).0) same ∙ sym is_too.0

  unread_agrees : (c d e f : Cursor P) (call : Call) {a b : Answer} → PassesUnread call → c.spot.place ≡ d.spot.place →
      c.refusal ≡ None → d.refusal ≡ None → Shows w c call a e → Shows w d call b f → AgreeToLack (a ∷ []) (b ∷ [])
  unread_agrees c d e f call by here none none_too (is_lack l) other = first_lacks _ _ [] [] l
  unread_agrees c d e f call {a = a} by here none none_too (is_told t same) other =
      absurd (none-some a (sym (ap (λ x. told x call) none) ∙ t))
  unread_agrees c d e f call by here none none_too (is_free untold is) (is_lack l) = second_lacks _ _ [] [] l
  unread_agrees c d e f call {b = b} by here none none_too (is_free untold is) (is_told t same) =
      absurd (none-some b (sym (ap (λ x. told x call) none_too) ∙ t))
  unread_agrees c d e f call by here none none_too (is_free untold is) (is_free untold_too is_too) =
      same_told (unread-answer c d e f call by here is is_too)

  -- After a peek that answers an event a skip or a capture answers what it answers without the peek.
  pub peek-skip : (c peeked d e : Cursor P) (call : Call) (shown : Event) (answer a b : Answer) → PassesUnread call →
      answer ≡ event (Ok (Some shown)) → Step w c peek answer peeked → Step w peeked call a d → Step w c call b e →
      AgreeToLack (a ∷ []) (b ∷ [])
  peek-skip c _ d e call shown answer a b by is (repeats r _ _ still tells_it) after before = cc
  peek-skip c _ d e call shown answer a b by is (peeks p none up) after before =
      unread_agrees _ c d e call by refl none none (step-shows w _ after) (step-shows w c before)
  peek-skip c _ d e call shown answer a b by is _ after before = cc

-- ---- runs

runs_on : {P : Type 0} {a b : Answer} {d e : Cursor P} {these those : List Answer} → Agree a b d e →
    (d ≡ e → AgreeToLack these those) → AgreeToLack (a ∷ these) (b ∷ those)
runs_on {a = a} {b = b} {these = these} {those = those} (lacks l) more = first_lacks a b these those l
runs_on {a = a} {b = b} {these = these} {those = those} (other_lacks l) more = second_lacks a b these those l
runs_on {a = a} {b = b} {these = these} {those = those} (is_one same left) more =
    subst (λ x. AgreeToLack (a ∷ these) (x ∷ those)) same (same_answer a these those (more left))

module _ {P : Type 0} (w : World P) (only : (place : P) (r q : Refusal) → w.refuses place r → w.refuses place q → r ≡ q)
    (one : (place : P) (a b : Part P) → w.stands place a → w.stands place b → a ≡ b) where
  -- Two runs with the same calls agree up to the first out of memory.
  pub runs-agree : (c d e : Cursor P) (calls : List Call) (these those : List Answer) → Run w c calls these d →
      Run w c calls those e → AgreeToLack these those
  runs-agree c d e _ _ _ (no_calls _) (no_calls _) = no_answers
  runs-agree c d e _ _ _ (one_call _ behind _ call a calls these step more) (one_call _ other _ _ b _ those step_too more_too) =
      runs_on (step-agrees w only one c behind other call a b step step_too)
      (λ same. runs-agree behind d e calls these those more (subst (λ x. Run w x calls those e) (sym same) more_too))
