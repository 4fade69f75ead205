-- A look ahead on a walk: what it looked for is passed, or the parser stands where it stood.
use Rattle.std.proofs.Common.{◌≡◌, Bool, true, false, List, refl, ap, ◌∙◌}
use Rattle.facet_format.specs.Complaint.{Refusal}
use Rattle.facet_format.specs.Event.{Event, EventKind, Passed, sequence_end, scalar, null}
use Rattle.facet_format.specs.Cursor.{at_spot, peeked_at}
use Rattle.facet_json_grammar.specs.Future.{finished, events_before}
use Rattle.facet_json_grammar.specs.Now.{Now, future_of}
use Rattle.facet_json_parser.specs.Inner.Wanted.{NeverGives}
use Rattle.facet_json_core.specs.Meaning.Taking.{Takes, StaysBefore}
use Rattle.facet_json_core.specs.Meaning.ListSteps.{ends_list}
use Rattle.facet_json_core.specs.Meaning.OneValue.{LooksAhead}
use Rattle.facet_json_core.specs.Meaning.Optional.{is_null_event}
use Rattle.facet_json_core.specs.Meaning.Passing.{WalksPast, LacksAlone}
use Rattle.facet_json_core.specs.Meaning.Peeking.{Finds}
use Rattle.facet_json_core.proofs.Meaning.WalkPlaces.{get-drop}

module _ (is : EventKind → Bool) where
  -- A peek that did not find it.
  pub finds-stays : (old new : Now) (found : Bool) → found ≡ false → Finds is old found new → LooksAhead is old found new → StaysBefore is old new
  finds-stays old new found not_found finds looks = record {
    there = looks.there;
    finds = λ w c p stands free at.
        let shows = finds w c p stands free at in record { other = shows.shown ∙ not_found; spot = peeked_at c.spot; place = refl; stands = shows.stands };
  }

  -- So it is after a peek that found it.
  pub finds-takes : (old between new : Now) (given : Event) (found : Bool) → found ≡ true → Finds is old found between → WalksPast between given new →
      Takes is old new
  finds-takes old between new given found was_found finds walks w c p stands free at =
      let shows = finds w c p stands free at in
      let passed = walks w (at_spot c (peeked_at c.spot)) shows.stands free in
      record { so = shows.shown ∙ was_found; stands = passed.stands }

  -- Where what comes after a peek lacks memory alone, so does what came before it.
  pub finds-lacks : (old between : Now) (found : Bool) (r : Refusal) → Finds is old found between → LacksAlone between r → LacksAlone old r
  finds-lacks old between found r finds lacks = record {
    lacks = λ w c p stands free at.
        let shows = finds w c p stands free at in lacks.lacks w (at_spot c (peeked_at c.spot)) p shows.stands free at;
  }

  other-kind : (kind : EventKind) (k : EventKind) (b : Bool) → ((x : EventKind) → is x ≡ true → x ≡ kind) → is k ≡ b → (k ≡ kind → ⊥) → b ≡ false
  other-kind kind k true only e never = absurd (never (only k e))
  other-kind kind k false only e never = refl

  -- Where none comes, the parser stays.
  pub never-stays : (now : Now) (kind : EventKind) → ((x : EventKind) → is x ≡ true → x ≡ kind) → NeverGives kind (future_of now) →
      StaysBefore is now now
  never-stays now kind only never = record {
    there = refl;
    finds = λ w c p stands free at.
        let place = c.spot.place in
        let comes = stands.spot.place.comes ∙ ap (λ (ps : List Passed). events_before ps finished) (get-drop w.events place p at) in
        record {
          other = other-kind kind p.event.kind (is p.event.kind) only refl (never p _ comes);
          spot = c.spot;
          place = refl;
          stands = stands;
        };
  }

-- The end of a list is one event, and so is null.
pub end-alone : (x : EventKind) → ends_list x ≡ true → x ≡ sequence_end
end-alone sequence_end e = refl
end-alone _ e = cc

pub null-alone : (x : EventKind) → is_null_event x ≡ true → x ≡ scalar null
null-alone (scalar null) e = refl
null-alone (scalar _) e = cc
null-alone _ e = cc
