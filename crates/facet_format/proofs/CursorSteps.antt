-- What follows from steps of a cursor.
use Rattle.std.proofs.Common.{◌≡◌, true, Some, None, Ok, Err, refl, sym, ◌∙◌, ap}
use Rattle.std.proofs.lemmas.Bool.{true≢false}
use Rattle.std.proofs.lemmas.Option.{none-some, same_Some}
use Rattle.facet_format.specs.Complaint.{Refusal}
use Rattle.facet_format.specs.Event.{Passed}
use Rattle.facet_format.specs.Cursor.{Upcoming, an_event, the_end, a_refusal, World, Cursor, Step, Answer, event, next, peek, repeats, passes, passes_without_memory, passes_the_end, passes_nothing, peeks, peeks_without_memory, peeks_at_the_end, peeks_at_nothing}

-- Two events that come at one place are one.
pub same-event : {what : Upcoming} (p q : Passed) → what ≡ an_event p → what ≡ an_event q → p ≡ q
same-event p q e other = let same : an_event p ≡ an_event q = sym e ∙ other in cc

module _ {P : Type 0} (w : World P) where
  -- A refused cursor repeats its refusal.
  refused-next : (c last : Cursor P) (answer : Answer) (r : Refusal) → c.refusal ≡ Some r → Step w c next answer last →
      event (Err r) ≡ answer
  refused-next c _ _ r is (repeats q _ _ still answers) =
      ap (λ (x : Refusal). event (Err x)) (same_Some r q (sym is ∙ still)) ∙ same_Some _ _ answers
  refused-next c _ _ r is (passes p none up) = absurd (none-some r (sym none ∙ is))
  refused-next c _ _ r is (passes_without_memory p none up takes unseen) = absurd (none-some r (sym none ∙ is))
  refused-next c _ _ r is (passes_the_end none up) = absurd (none-some r (sym none ∙ is))
  refused-next c _ _ r is (passes_nothing q none up refuses) = absurd (none-some r (sym none ∙ is))

  -- An event that was peeked at is passed.
  peeked-next : (c last : Cursor P) (answer : Answer) (p : Passed) → c.refusal ≡ None → c.spot.peeked ≡ true →
      w.comes c.spot.place ≡ an_event p → Step w c next answer last → event (Ok (Some p.event)) ≡ answer
  peeked-next c _ _ p none seen up (repeats q _ _ still answers) = absurd (none-some q (sym none ∙ still))
  peeked-next c _ _ p none seen up (passes q _ up_too) =
      ap (λ (x : Passed). event (Ok (Some x.event))) (same-event p q up up_too)
  peeked-next c _ _ p none seen up (passes_without_memory q _ up_too takes unseen) = absurd (true≢false (sym seen ∙ unseen))
  peeked-next c _ _ p none seen up (passes_the_end _ up_too) = let no : an_event p ≡ the_end = sym up ∙ up_too in cc
  peeked-next c _ _ p none seen up (passes_nothing q _ up_too refuses) = let no : an_event p ≡ a_refusal = sym up ∙ up_too in cc

  -- At the end there is no next event.
  end-next : (c last : Cursor P) (answer : Answer) → c.refusal ≡ None → w.comes c.spot.place ≡ the_end →
      Step w c next answer last → event (Ok None) ≡ answer
  end-next c _ _ none up (repeats q _ _ still answers) = absurd (none-some q (sym none ∙ still))
  end-next c _ _ none up (passes q _ up_too) = let no : the_end ≡ an_event q = sym up ∙ up_too in cc
  end-next c _ _ none up (passes_without_memory q _ up_too takes unseen) = let no : the_end ≡ an_event q = sym up ∙ up_too in cc
  end-next c _ _ none up (passes_the_end _ up_too) = refl
  end-next c _ _ none up (passes_nothing q _ up_too refuses) = let no : the_end ≡ a_refusal = sym up ∙ up_too in cc

  -- The call after a peek answers what the peek did.
  pub peek-next : (c between last : Cursor P) (shown answer : Answer) → Step w c peek shown between →
      Step w between next answer last → shown ≡ answer
  peek-next c _ last shown answer (repeats r _ _ is shows) step = sym (same_Some _ _ shows) ∙ refused-next c last answer r is step
  peek-next c _ last _ answer (peeks p none up) step = peeked-next _ last answer p none refl up step
  peek-next c _ last _ answer (peeks_without_memory p none up takes) step = refused-next _ last answer _ refl step
  peek-next c _ last _ answer (peeks_at_the_end none up) step = end-next c last answer none up step
  peek-next c _ last _ answer (peeks_at_nothing r none up refuses) step = refused-next _ last answer r refl step
