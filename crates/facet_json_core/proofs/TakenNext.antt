-- What is wanted and passed is passed as an event is, and so is what was looked for.
use Rattle.std.proofs.Common.{◌≡◌, true, Option, Some, None, Ok, refl, arith}
use Rattle.std.specs.Prelude.{MatchOption}
use Rattle.facet_format.specs.Cursor.{event}
use Rattle.facet_format.specs.Event.{Event, EventKind, array}
use Rattle.facet_json_reader.specs.declared.sought.Sought.{Sought}
use Rattle.facet_json_reader.specs.declared.sought.Sought.TheVariants as sought
use Rattle.facet_json_grammar.specs.Now.{Now, GoesOn, SameInput}
use Rattle.facet_json_parser.specs.Inner.Wanted.{PassesWanted}
use Rattle.facet_json_core.proofs.Meaning.OneValue.EventsPassed.{next-passes_by_kind}
use Rattle.facet_json_core.proofs.Meaning.Walks.NextOnWalk.{answer-walks}
use Rattle.facet_json_core.specs.Meaning.OneValue.{PassesByKind}
use Rattle.facet_json_core.specs.Meaning.Taking.{TakesNext, is_sought, PassesSought}
use Rattle.facet_json_core.proofs.Meaning.OneValue.KindsPassed.{list-ended, null-passed}
use Rattle.facet_json_core.proofs.Meaning.OneValue.WithinValues.{inside-stays, value-stays}

pub wanted-takes : {A : Type 0} (given : A → Event) (old new : Now) (o : Option A) →
    MatchOption o (new ≡ old) (λ a. PassesWanted old (given a) new) → MatchOption o (new ≡ old) (λ a. TakesNext old (given a) new)
wanted-takes given old new None same = same
wanted-takes given old new (Some a) is = record {
  onward = is.onward;
  shorter = is.shorter;
  passed = is.next;
  walks = answer-walks old new (given a) (event (Ok (Some (given a)))) refl is.steps;
  by_kind = next-passes_by_kind old new (given a) is.moves;
  within = is.within;
}

-- A parser that stands where it stood goes on.
pub stays-put : (now : Now) → GoesOn now now
stays-put now = record {
  input = record { buffer = refl; language = refl };
  points = record { kept = refl; counter = refl };
  onward = omega arith;
  by_calls = λ first led. led;
}

-- What was looked for by a peek, which lets the parser stand where it stood, is passed.
pub sought-passed : (which : Sought) (old mid new : Now) (kind : EventKind) → is_sought which kind ≡ true → SameInput old mid →
    mid.cursor.spot.place ≡ old.cursor.spot.place → PassesByKind kind mid new → PassesSought which old new
sought-passed sought.ListEnd old mid new kind is input there passed =
    λ start inside. list-ended mid new kind is passed start (inside-stays array start old mid inside input there)
sought-passed sought.Null old mid new kind is input there passed = value-stays old mid new input there (null-passed mid new kind is passed)
