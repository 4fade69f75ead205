-- A step of a cursor in one world is a step in another one, where the places are alike.
use Rattle.std.proofs.Common.{◌≡◌, ℕ, suc, ◌≤◌, Bool, true, false, cond, ◌==◌, List, [], ◌∷◌, length, Option, Some, None, refl, sym, ap, ◌∙◌, subst}
use Rattle.std.specs.Prelude.{slice_range, Result, Ok, Err}
use Rattle.std.specs.Str.{is_utf8}
use Rattle.facet_format.specs.Complaint.{Refusal}
use Rattle.facet_format.specs.Event.{Event, Passed, peek_takes_memory}
use Rattle.facet_format.specs.Kept.{found, without, with_point}
use Rattle.facet_format.specs.Part.{Part, has_brackets, skip_of, captured, capture_of}
use Rattle.facet_format.specs.Cursor.{Upcoming, an_event, a_refusal, World, Spot, Cursor, Call, events, save, Answer, batch, saved, current_span, unpeeked, peeked_at, Comes, no_event, one_event, spot_after, at_spot, refused_at, kept_here, back_at, no_memory_at, Step, repeats, passes, passes_without_memory, passes_the_end, passes_nothing, peeks, peeks_without_memory, peeks_at_the_end, peeks_at_nothing, gives_none, gives, gives_without_memory, gives_up, saves, saves_at_the_limit, saves_without_memory, skips, skips_without_memory, skips_nothing, captures, captures_without_memory, captures_nothing, restores, restores_nothing, tells, Run, no_calls, one_call}
use Rattle.facet_format.specs.Alike.{SpotsAlike, KeptAlike, none_kept, one_kept, CursorsAlike, PartsAlike, same_value, same_key, same_closing, both_nothing}

-- From places that are alike the same comes, and leads to places that are alike.
pub record WorldsAlike {P Q : Type 0} (v : World P) (w : World Q) (like : P → Q → Type 0) : Type 0 where
  pub comes : (p : P) (q : Q) → like p q → v.comes p ≡ w.comes q
  pub refuses : (p : P) (q : Q) (r : Refusal) → like p q → v.comes p ≡ a_refusal → v.refuses p r → w.refuses q r
  pub past : (p : P) (q : Q) (e : Passed) → like p q → v.comes p ≡ an_event e → like (v.past e p) (w.past e q)
  pub last : (p : P) (q : Q) → like p q → v.last p ≡ w.last q
  pub bytes : (p : P) (q : Q) → like p q → v.bytes ≡ w.bytes
  pub stands : (p : P) (q : Q) (part : Part P) → like p q → v.stands p part →
      (other : Part Q) × w.stands q other × PartsAlike like part other

-- ---- results

abbrev value_of : {A : Type 0} → A → Result A Refusal → A
value_of other (Ok a) = a
value_of other (Err r) = other

abbrev refusal_of : {A : Type 0} → Refusal → Result A Refusal → Refusal
refusal_of other (Ok a) = other
refusal_of other (Err r) = r

-- One result has one value.
same_Ok : {A : Type 0} (a b : A) → ◌≡◌ {A = Result A Refusal} (Ok a) (Ok b) → a ≡ b
same_Ok a b e = ap (value_of a) e

-- One result has one refusal.
same_Err : {A : Type 0} (r q : Refusal) → ◌≡◌ {A = Result A Refusal} (Err r) (Err q) → r ≡ q
same_Err {A = A} r q e = ap (refusal_of {A = A} r) e

-- ---- kept points

module _ {P Q : Type 0} (like : P → Q → Type 0) where
  found_here : (same : Bool) (s : Spot P) (t : Spot Q) (at : Spot P) (a : Option (Spot P)) (b : Option (Spot Q)) →
      SpotsAlike like s t → (a ≡ Some at → (spot : Spot Q) × (b ≡ Some spot) × SpotsAlike like at spot) →
      cond same (Some s) a ≡ Some at → (spot : Spot Q) × (cond same (Some t) b ≡ Some spot) × SpotsAlike like at spot
  found_here true s t at a b here others e =
      let found_it : s ≡ at = cc in
      (t, refl, subst (λ x. SpotsAlike like x t) found_it here)
  found_here false s t at a b here others e = others e

  -- What is kept under a number is like what the other keeps under it.
  found-alike : (number : ℕ) (at : Spot P) {ss : List (ℕ × Spot P)} {ts : List (ℕ × Spot Q)} → KeptAlike like ss ts →
      found number ss ≡ Some at → (spot : Spot Q) × (found number ts ≡ Some spot) × SpotsAlike like at spot
  found-alike number at none_kept e = cc
  found-alike number at (one_kept point s t ss ts here more) e =
      found_here (point == number) s t at (found number ss) (found number ts) here (found-alike number at more) e

  lost_here : (same : Bool) (s : Spot P) (t : Spot Q) (a : Option (Spot P)) (b : Option (Spot Q)) → (a ≡ None → b ≡ None) →
      cond same (Some s) a ≡ None → cond same (Some t) b ≡ None
  lost_here true s t a b others e = cc
  lost_here false s t a b others e = others e

  -- Where nothing is kept under a number, the other keeps nothing under it.
  lost-alike : (number : ℕ) {ss : List (ℕ × Spot P)} {ts : List (ℕ × Spot Q)} → KeptAlike like ss ts →
      found number ss ≡ None → found number ts ≡ None
  lost-alike number none_kept e = refl
  lost-alike number (one_kept point s t ss ts here more) e =
      lost_here (point == number) s t (found number ss) (found number ts) (lost-alike number more) e

  dropped_here : (same : Bool) (point : ℕ) (s : Spot P) (t : Spot Q) (ss : List (ℕ × Spot P)) (ts : List (ℕ × Spot Q)) →
      SpotsAlike like s t → KeptAlike like ss ts →
      KeptAlike like (cond same ss ((point, s) ∷ ss)) (cond same ts ((point, t) ∷ ts))
  dropped_here true point s t ss ts here more = more
  dropped_here false point s t ss ts here more = one_kept point s t ss ts here more

  -- Without the points of a number they are alike.
  without-alike : (number : ℕ) {ss : List (ℕ × Spot P)} {ts : List (ℕ × Spot Q)} → KeptAlike like ss ts →
      KeptAlike like (without number ss) (without number ts)
  without-alike number none_kept = none_kept
  without-alike number (one_kept point s t ss ts here more) =
      dropped_here (point == number) point s t (without number ss) (without number ts) here (without-alike number more)

  -- With one more point they are.
  with_point-alike : (number : ℕ) (s : Spot P) (t : Spot Q) {ss : List (ℕ × Spot P)} {ts : List (ℕ × Spot Q)} →
      KeptAlike like ss ts → SpotsAlike like s t → KeptAlike like (with_point number s ss) (with_point number t ts)
  with_point-alike number s t none_kept here = one_kept number s t [] [] here none_kept
  with_point-alike number s t (one_kept point a b ss ts there more) here =
      one_kept point a b (with_point number s ss) (with_point number t ts) there (with_point-alike number s t more here)

  -- ---- spots

  -- After the same events the spots are alike.
  after-alike : (given : List Event) {p : P} {q : Q} {s : Spot P} {t : Spot Q} → like p q → SpotsAlike like s t →
      SpotsAlike like (spot_after given p s) (spot_after given q t)
  after-alike [] there here = here
  after-alike (e ∷ given) there here = record { place = there; peeked = refl }

  -- The cursors at other spots.
  settled : {c : Cursor P} {d : Cursor Q} {s : Spot P} {t : Spot Q} → CursorsAlike like c d → SpotsAlike like s t →
      CursorsAlike like (at_spot c s) (at_spot d t)
  settled alike here = record { spot = here; refusal = alike.refusal; kept = alike.kept; counter = alike.counter }

  -- The cursors at other spots, and refused.
  refused : {c : Cursor P} {d : Cursor Q} {s : Spot P} {t : Spot Q} (r : Refusal) → CursorsAlike like c d →
      SpotsAlike like s t → CursorsAlike like (refused_at c s r) (refused_at d t r)
  refused r alike here = record { spot = here; refusal = refl; kept = alike.kept; counter = alike.counter }

  -- ---- parts

  -- A skip leads to places that are alike.
  skips-alike : {part : Part P} {other : Part Q} {place : P} → PartsAlike like part other → skip_of part ≡ Ok place →
      (q : Q) × (skip_of other ≡ Ok q) × like place q
  skips-alike {place = place} (same_value brackets start finish p q here) e =
      let same : p ≡ place = cc in (q, refl, subst (λ x. like x q) same here)
  skips-alike {place = place} (same_key start p q here) e = let same : p ≡ place = cc in (q, refl, subst (λ x. like x q) same here)
  skips-alike {place = place} (same_closing start p q here) e = let same : p ≡ place = cc in (q, refl, subst (λ x. like x q) same here)
  skips-alike (both_nothing r) e = cc

  -- What a skip is refused with is the same.
  skip_refused-alike : {part : Part P} {other : Part Q} {r : Refusal} → PartsAlike like part other → skip_of part ≡ Err r →
      skip_of other ≡ Err r
  skip_refused-alike (same_value brackets start finish p q here) e = cc
  skip_refused-alike (same_key start p q here) e = cc
  skip_refused-alike (same_closing start p q here) e = cc
  skip_refused-alike {r = r} (both_nothing q) e = ap (λ (x : Refusal). Err x) (same_Err q r e)

  -- Both have brackets or neither has.
  brackets-alike : {part : Part P} {other : Part Q} → PartsAlike like part other → has_brackets other ≡ has_brackets part
  brackets-alike (same_value brackets start finish p q here) = refl
  brackets-alike (same_key start p q here) = refl
  brackets-alike (same_closing start p q here) = refl
  brackets-alike (both_nothing r) = refl

  captured_alike : (start finish : ℕ) (p place : P) (q : Q) (bytes text : List ℕ) (utf8 : Bool) → like p q →
      captured start finish p bytes utf8 ≡ Ok (text, place) →
      (x : Q) × (captured start finish q bytes utf8 ≡ Ok (text, x)) × like place x
  captured_alike start finish p place q bytes text true here e =
      let same = same_Ok (bytes, p) (text, place) e in
      (q, ap (λ x. Ok (x.0, q)) same, subst (λ x. like x q) (ap (λ x. x.1) same) here)
  captured_alike start finish p place q bytes text false here e = cc

  -- A capture answers the same bytes, and leads to places that are alike.
  captures-alike : (bytes : List ℕ) {part : Part P} {other : Part Q} {text : List ℕ} {place : P} → PartsAlike like part other →
      capture_of bytes part ≡ Ok (text, place) → (q : Q) × (capture_of bytes other ≡ Ok (text, q)) × like place q
  captures-alike bytes {text = text} {place = place} (same_value brackets start finish p q here) e =
      let found = slice_range bytes start finish in captured_alike start finish p place q found text (is_utf8 found) here e
  captures-alike bytes (same_key start p q here) e = cc
  captures-alike bytes (same_closing start p q here) e = cc
  captures-alike bytes (both_nothing r) e = cc

  captured_refused : (start finish : ℕ) (p : P) (q : Q) (bytes : List ℕ) (utf8 : Bool) (r : Refusal) →
      captured start finish p bytes utf8 ≡ Err r → captured start finish q bytes utf8 ≡ Err r
  captured_refused start finish p q bytes true r e = cc
  captured_refused start finish p q bytes false r e = ap (λ (x : Refusal). Err x) (same_Err _ r e)

  -- What a capture is refused with is the same.
  capture_refused-alike : (bytes : List ℕ) {part : Part P} {other : Part Q} {r : Refusal} → PartsAlike like part other →
      capture_of bytes part ≡ Err r → capture_of bytes other ≡ Err r
  capture_refused-alike bytes {r = r} (same_value brackets start finish p q here) e =
      let found = slice_range bytes start finish in captured_refused start finish p q found (is_utf8 found) r e
  capture_refused-alike bytes {r = r} (same_key start p q here) e = ap (λ (x : Refusal). Err x) (same_Err _ r e)
  capture_refused-alike bytes {r = r} (same_closing start p q here) e = ap (λ (x : Refusal). Err x) (same_Err _ r e)
  capture_refused-alike bytes {r = r} (both_nothing q) e = ap (λ (x : Refusal). Err x) (same_Err _ r e)

-- ---- steps

module _ {P Q : Type 0} (v : World P) (w : World Q) (like : P → Q → Type 0) (worlds : WorldsAlike v w like) where
  -- At spots that are alike the last token that was read is the same.
  current-alike : (s : Spot P) (t : Spot Q) → SpotsAlike like s t → current_span v s ≡ current_span w t
  current-alike s t here =
      rw (here.peeked, worlds.comes s.place t.place here.place, worlds.last s.place t.place here.place) refl

  -- The same comes at the other place.
  comes-there : {p : P} {q : Q} {what : Upcoming} → like p q → v.comes p ≡ what → w.comes q ≡ what
  comes-there {p = p} {q = q} here comes = sym (worlds.comes p q here) ∙ comes

  -- The same events come from the other place, and lead to a place that is alike.
  events-alike : {p after : P} {q : Q} {given : List Event} → like p q → Comes v p given after →
      (there : Q) × Comes w q given there × like after there
  events-alike {q = q} here (no_event _) = (q, no_event q, here)
  events-alike {q = q} here (one_event place after p others comes more) =
      let behind = events-alike (worlds.past place q p here comes) more in
      (behind.0, one_event q behind.0 p others (comes-there here comes) behind.1, behind.2)

  module _ {c : Cursor P} {d : Cursor Q} (alike : CursorsAlike like c d) where
    here : like c.spot.place d.spot.place
    here = alike.spot.place

    current : current_span v c.spot ≡ current_span w d.spot
    current = current-alike c.spot d.spot alike.spot

    free : c.refusal ≡ None → d.refusal ≡ None
    free none = sym alike.refusal ∙ none

    -- The input is the same.
    same_bytes : (other : Part Q) → capture_of w.bytes other ≡ capture_of v.bytes other
    same_bytes other = ap (λ bytes. capture_of bytes other) (sym (worlds.bytes c.spot.place d.spot.place here))

    -- Where a batch ends for want of memory, it may end so for the other cursor.
    without_memory : (k : ℕ) (given : List Event) (place : P) (p : Passed) → c.refusal ≡ None → Comes v c.spot.place given place →
        length given ≤ k → v.comes place ≡ an_event p →
        let spot = spot_after given place c.spot in let r = no_memory_at (current_span v spot) in
        (e : Cursor Q) × Step w d (events (suc k)) (batch given (Err r)) e × CursorsAlike like (refused_at c spot r) e
    without_memory k given place p none all le comes =
        let there = events-alike here all in
        let spot = spot_after given place c.spot in
        let to = spot_after given there.0 d.spot in
        let spots : SpotsAlike like spot to = after-alike like given there.2 alike.spot in
        let r = no_memory_at (current_span w to) in
        rw (current-alike spot to spots) (
          refused_at d to r,
          gives_without_memory k given there.0 p to (free none) there.1 le (comes-there there.2 comes) refl,
          refused like r alike spots,
        )

  -- A step of a cursor is one of each cursor that stands alike.
  pub step-alike : {c between : Cursor P} {d : Cursor Q} {call : Call} {answer : Answer} → CursorsAlike like c d →
      Step v c call answer between → (e : Cursor Q) × Step w d call answer e × CursorsAlike like between e
  step-alike {d = d} alike (repeats r call answer is repeats_it) =
      (d, repeats r call answer (sym alike.refusal ∙ is) repeats_it, alike)
  step-alike {c = c} {d = d} alike (passes p none comes) = (
    at_spot d (unpeeked (w.past p d.spot.place)),
    passes p (free alike none) (comes-there (here alike) comes),
    settled like alike (record { place = worlds.past c.spot.place d.spot.place p (here alike) comes; peeked = refl }),
  )
  step-alike {d = d} alike (passes_without_memory p none comes takes unseen) =
      let r = no_memory_at (current_span w d.spot) in
      rw (current alike) (
        refused_at d d.spot r,
        passes_without_memory p (free alike none) (comes-there (here alike) comes) takes (sym alike.spot.peeked ∙ unseen),
        refused like r alike alike.spot,
      )
  step-alike {d = d} alike (passes_the_end none comes) =
      (d, passes_the_end (free alike none) (comes-there (here alike) comes), alike)
  step-alike {c = c} {d = d} alike (passes_nothing r none comes refuses) = (
    refused_at d d.spot r,
    passes_nothing r (free alike none) (comes-there (here alike) comes)
        (worlds.refuses c.spot.place d.spot.place r (here alike) comes refuses),
    refused like r alike alike.spot,
  )
  step-alike {d = d} alike (peeks p none comes) = (
    at_spot d (peeked_at d.spot),
    peeks p (free alike none) (comes-there (here alike) comes),
    settled like alike (record { place = here alike; peeked = refl }),
  )
  step-alike {d = d} alike (peeks_without_memory p none comes takes) =
      let r = no_memory_at (current_span w d.spot) in
      let allocates = ap (λ b. peek_takes_memory b p.event.kind) (sym alike.spot.peeked) ∙ takes in
      rw (current alike) (
        refused_at d d.spot r,
        peeks_without_memory p (free alike none) (comes-there (here alike) comes) allocates,
        refused like r alike alike.spot,
      )
  step-alike {d = d} alike (peeks_at_the_end none comes) =
      (d, peeks_at_the_end (free alike none) (comes-there (here alike) comes), alike)
  step-alike {c = c} {d = d} alike (peeks_at_nothing r none comes refuses) = (
    refused_at d d.spot r,
    peeks_at_nothing r (free alike none) (comes-there (here alike) comes)
        (worlds.refuses c.spot.place d.spot.place r (here alike) comes refuses),
    refused like r alike alike.spot,
  )
  step-alike {d = d} alike gives_none = (d, gives_none, alike)
  step-alike {d = d} alike (gives k n given place none all count most ends) =
      let there = events-alike (here alike) all in (
        at_spot d (spot_after given there.0 d.spot),
        gives k n given there.0 (free alike none) there.1 count most (λ le. comes-there there.2 (ends le)),
        settled like alike (after-alike like given there.2 alike.spot),
      )
  step-alike alike (gives_without_memory k given place p spot none all le comes is) =
      rw is (without_memory alike k given place p none all le comes)
  step-alike {d = d} alike (gives_up k given place r none all le comes refuses) =
      let there = events-alike (here alike) all in (
        refused_at d (spot_after given there.0 d.spot) r,
        gives_up k given there.0 r (free alike none) there.1 le (comes-there there.2 comes)
            (worlds.refuses place there.0 r there.2 comes refuses),
        refused like r alike (after-alike like given there.2 alike.spot),
      )
  step-alike {c = c} {d = d} alike (skips part place none stands leads) =
      let there = worlds.stands c.spot.place d.spot.place part (here alike) stands in
      let to = skips-alike like there.2 leads in (
        at_spot d (unpeeked to.0),
        skips there.0 to.0 (free alike none) there.1 to.1,
        settled like alike (record { place = to.2; peeked = refl }),
      )
  step-alike {c = c} {d = d} alike (skips_without_memory part none stands takes) =
      let there = worlds.stands c.spot.place d.spot.place part (here alike) stands in
      let r = no_memory_at (current_span w d.spot) in
      rw (current alike) (
        refused_at d d.spot r,
        skips_without_memory there.0 (free alike none) there.1 (brackets-alike like there.2 ∙ takes),
        refused like r alike alike.spot,
      )
  step-alike {c = c} {d = d} alike (skips_nothing part r none stands stops) =
      let there = worlds.stands c.spot.place d.spot.place part (here alike) stands in (
        refused_at d d.spot r,
        skips_nothing there.0 r (free alike none) there.1 (skip_refused-alike like there.2 stops),
        refused like r alike alike.spot,
      )
  step-alike {c = c} {d = d} alike (captures part text place none stands leads) =
      let there = worlds.stands c.spot.place d.spot.place part (here alike) stands in
      let to = captures-alike like v.bytes there.2 leads in (
        at_spot d (unpeeked to.0),
        captures there.0 text to.0 (free alike none) there.1 (same_bytes alike there.0 ∙ to.1),
        settled like alike (record { place = to.2; peeked = refl }),
      )
  step-alike {c = c} {d = d} alike (captures_without_memory part none stands takes) =
      let there = worlds.stands c.spot.place d.spot.place part (here alike) stands in
      let r = no_memory_at (current_span w d.spot) in
      rw (current alike) (
        refused_at d d.spot r,
        captures_without_memory there.0 (free alike none) there.1 (brackets-alike like there.2 ∙ takes),
        refused like r alike alike.spot,
      )
  step-alike {c = c} {d = d} alike (captures_nothing part r none stands stops) =
      let there = worlds.stands c.spot.place d.spot.place part (here alike) stands in (
        refused_at d d.spot r,
        captures_nothing there.0 r (free alike none) there.1 (same_bytes alike there.0 ∙ capture_refused-alike like v.bytes there.2 stops),
        refused like r alike alike.spot,
      )
  step-alike {c = c} {d = d} alike (saves none less) =
      let same = alike.counter in
      let step : Step w d save (saved (Ok (suc c.counter))) (kept_here d) = rw same (saves (free alike none) (rw same at less)) in
      let points = with_point-alike like (suc d.counter) c.spot d.spot alike.kept alike.spot in
      (kept_here d, step, record { spot = alike.spot; refusal = alike.refusal; kept = rw same points; counter = ap suc same })
  step-alike {d = d} alike (saves_at_the_limit none e) =
      rw (current alike) (d, saves_at_the_limit (free alike none) (sym alike.counter ∙ e), alike)
  step-alike {d = d} alike (saves_without_memory none less) =
      rw (current alike) (d, saves_without_memory (free alike none) (rw alike.counter at less), alike)
  step-alike {d = d} alike (restores point spot e) =
      let there = found-alike like point spot alike.kept e in (
        back_at d point there.0,
        restores point there.0 there.1,
        record { spot = there.2; refusal = refl; kept = without-alike like point alike.kept; counter = alike.counter },
      )
  step-alike {d = d} alike (restores_nothing point e) = (d, restores_nothing point (lost-alike like point alike.kept e), alike)
  step-alike {d = d} alike tells = rw (current alike) (d, tells, alike)

  -- A run of a cursor is one of each cursor that stands alike.
  pub run-alike : {c between : Cursor P} {d : Cursor Q} {calls : List Call} {answers : List Answer} → CursorsAlike like c d →
      Run v c calls answers between → (e : Cursor Q) × Run w d calls answers e × CursorsAlike like between e
  run-alike {d = d} alike (no_calls _) = (d, no_calls d, alike)
  run-alike {d = d} alike (one_call _ middle last call answer calls answers step more) =
      let first = step-alike alike step in
      let rest = run-alike first.2 more in
      (rest.0, one_call d first.0 rest.0 call answer calls answers first.1 rest.1, rest.2)
