-- Where a place of an input is one on a walk: the event that comes is the one at that place, and the place after it is the next one.
use Rattle.std.specs.Prelude.{slice_get}
use Rattle.std.proofs.Common.{◌≡◌, ℕ, zero, suc, ◌+◌, ◌<◌, ◌≤◌, List, [], ◌∷◌, length, drop, None, Some, refl, sym, ap, ◌∙◌, arith}
use Rattle.facet_format.specs.Event.{Passed}
use Rattle.facet_format.specs.Part.{Source, last_of}
use Rattle.facet_json_grammar.specs.Future.{Future, gives, finished, events_before}
use Rattle.facet_json_grammar.specs.Reader.{Reader, past, future_at}
use Rattle.facet_json_grammar.specs.Language.{Language}
use Rattle.facet_json_grammar.specs.OnWalk.{IsOnWalk}
use Rattle.facet_json_grammar.proofs.Parts.FinishedComes.{begins-with}
use Rattle.facet_json_grammar.proofs.PastEvents.{past-comes}

-- ---- the event at a place

-- The event is the one at this place of the walk, and the others come after it.
pub record IsThere (w : List Passed) (place : ℕ) (p : Passed) (others : List Passed) : Type 0 where
  pub there : slice_get w place ≡ Some p
  pub behind : drop (suc place) w ≡ others
  pub place_within : suc place ≤ length w

-- Where the events from a place on begin with an event, it is the one at that place.
pub is-there : (w : List Passed) (place : ℕ) (p : Passed) (others : List Passed) → drop place w ≡ p ∷ others → IsThere w place p others
is-there [] zero p others e = cc
is-there [] (suc i) p others e = cc
is-there (q ∷ w) zero p others e = record { there = cc; behind = cc; place_within = omega arith }
is-there (q ∷ w) (suc i) p others e =
    let more = is-there w i p others e in
    record { there = more.there; behind = more.behind; place_within = omega (arith, more.place_within) }

-- Where no more events come, none stands at the place.
pub none-there : (w : List Passed) (place : ℕ) → drop place w ≡ [] → slice_get w place ≡ None
none-there [] place e = refl
none-there (q ∷ w) zero e = cc
none-there (q ∷ w) (suc i) e = none-there w i e

-- ---- the last token of events

-- It is the same counted after one more event.
pub last_of-cons : (p : Passed) (ps : List Passed) (k : ℕ) → 0 < k → last_of (p ∷ ps) (suc k) ≡ last_of ps k
last_of-cons p ps zero h = absurd (omega arith)
last_of-cons p ps (suc k) h = refl

-- Of no events it is none.
last_of-none : (k : ℕ) → last_of [] k ≡ last_of [] 0
last_of-none zero = refl
last_of-none (suc k) = refl

-- It is the same counted after more events.
pub last_of-drop : (m k : ℕ) (w : List Passed) → 0 < k → last_of (drop m w) k ≡ last_of w (m + k)
last_of-drop zero k w h = ap (last_of w) (omega arith)
last_of-drop (suc m) k [] h = last_of-none k ∙ sym (last_of-none (suc m + k))
last_of-drop (suc m) k (q ∷ w) h =
    let sum : suc (m + k) ≡ suc m + k = omega arith in
    last_of-drop m k w h ∙ sym (last_of-cons q w (m + k) (omega arith)) ∙ ap (last_of (q ∷ w)) sum

-- ---- places

module _ (buffer : List ℕ) (language : Language) (w : Source) (s : Reader) (place : ℕ) (on : IsOnWalk buffer language w s place) where
  -- The event that comes is the one at the place on the walk, and the reader after it is the next place.
  pub record IsNext (p : Passed) : Type 0 where
    pub there : slice_get w.events place ≡ Some p
    pub after : IsOnWalk buffer language w (past p s) (suc place)

  -- It is so.
  pub is-next : (p : Passed) (future : Future) → future_at buffer language s ≡ gives p future → IsNext p
  is-next p future e =
      let first = begins-with p future (drop place w.events) (sym e ∙ on.comes) in
      let at = is-there w.events place p first.others first.same in
      record {
        there = at.there;
        after = record {
          bytes = on.bytes;
          place_within = at.place_within;
          comes = past-comes buffer language s p future e ∙ first.behind ∙ ap (λ ps. events_before ps finished) (sym at.behind);
          last = let same = at.there in rw same refl;
        };
      }
