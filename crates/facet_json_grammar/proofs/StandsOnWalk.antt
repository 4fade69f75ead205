-- Where a parser stands on a document's walk: at its start when it is new, and where an input's place is a place on the walk.
use Rattle.std.proofs.Common.{◌≡◌, ℕ, zero, suc, List, [], ◌∷◌, drop, Option, Some, None, refl, sym, ap, ◌∙◌, arith}
use Rattle.std.specs.Prelude.{ℕ, List, slice_get}
use Rattle.facet_json_token.specs.Gap.{Mode}
use Rattle.facet_json_grammar.specs.Language.{Language}
use Rattle.facet_format.specs.Event.{Passed}
use Rattle.facet_format.specs.Alike.{none_kept}
use Rattle.facet_format.specs.Cursor.{an_event, a_refusal, event_or_end, on_walk, start}
use Rattle.facet_format.specs.Part.{Source}
use Rattle.facet_json_grammar.specs.Node.{Node}
use Rattle.facet_json_grammar.specs.Tree.{Tree}
use Rattle.facet_json_grammar.specs.Document.{IsDocument}
use Rattle.facet_json_grammar.specs.Walk.{source_of}
use Rattle.facet_json_grammar.specs.Future.{finished, events_before}
use Rattle.facet_json_grammar.specs.Reader.{Reader, past, future_at}
use Rattle.facet_json_grammar.proofs.WalkComes.{document-comes}
use Rattle.facet_json_grammar.specs.Now.{fresh, first_of, on_input, StandsAt}
use Rattle.facet_json_grammar.specs.OnWalk.{IsOnWalk}
use Rattle.facet_format.proofs.StepsAlike.{WorldsAlike}
use Rattle.facet_json_grammar.proofs.Parts.PartsOnWalk.{parts-on_walk}
use Rattle.facet_json_grammar.proofs.Parts.PlacesOnWalk.{is-next}
use Rattle.facet_json_grammar.proofs.MovesNext.{first-gives}

-- ---- at the start

-- A new parser stands where the cursor starts.
pub fresh-stands : (buffer : List ℕ) (mode : Mode) (root : Node) (value : Tree) → IsDocument buffer mode root value →
    StandsAt (fresh buffer mode) (source_of buffer root) start
fresh-stands buffer mode root value d = record {
  spot = record {
    place = record { bytes = refl; place_within = omega arith; comes = document-comes buffer mode root value d; last = refl };
    peeked = refl;
  };
  refusal = refl;
  kept = none_kept;
  counter = refl;
}

-- ---- what comes, and the place on the walk

-- What comes first is the event at the place, or the end.
first-there : (w : List Passed) (i : ℕ) → first_of (events_before (drop i w) finished) ≡ event_or_end (slice_get w i)
first-there [] zero = refl
first-there [] (suc i) = refl
first-there (q ∷ w) zero = refl
first-there (q ∷ w) (suc i) = first-there w i

-- There it is no refusal.
never-refused : (o : Option Passed) → event_or_end o ≡ a_refusal → ⊥
never-refused None e = cc
never-refused (Some p) e = cc

-- Where an input's place is one on a walk, they are alike from there on.
pub input-on_walk : (buffer : List ℕ) (language : Language) (w : Source) →
    WorldsAlike (on_input buffer language) (on_walk w) (IsOnWalk buffer language w)
input-on_walk buffer language w = record {
  comes = λ s place on. ap first_of on.comes ∙ first-there w.events place;
  refuses = λ s place r on comes may.
      absurd (never-refused (slice_get w.events place) (sym (ap first_of on.comes ∙ first-there w.events place) ∙ comes));
  past = λ s place p on comes. passed s place p on comes;
  last = λ s place on. on.last;
  bytes = λ s place on. on.bytes;
  stands = λ s place part on stands. parts-on_walk buffer language w s place part on stands;
}
  where
    passed : (s : Reader) (place : ℕ) (p : Passed) → IsOnWalk buffer language w s place →
        first_of (future_at buffer language s) ≡ an_event p → IsOnWalk buffer language w (past p s) (suc place)
    passed s place p on comes =
        let first = first-gives (future_at buffer language s) p comes in
        (is-next buffer language w s place on p first.0 first.1).after
