-- What is consumed in sight is what the parser passes.
use Rattle.std.proofs.Common.{◌≡◌, ◌∙◌, ℕ, Bool, false, List, Option, Some, None, refl, sym, ap, subst}
use Rattle.std.specs.Prelude.{Ok, is_some}
use Rattle.std.specs.Option.{option_map}
use Rattle.facet_format.specs.Cursor.{next, event, Spot, unpeeked}
use Rattle.facet_format.specs.Event.{Event, Passed}
use Rattle.facet_json_token.specs.Gap.{plain}
use Rattle.facet_json_grammar.specs.Language.{lenient}
use Rattle.facet_json_grammar.specs.Move.{Moves}
use Rattle.facet_json_grammar.specs.Now.{Now, on_input}
use Rattle.facet_json_grammar.specs.Reader.{Reader}
use Rattle.facet_json_grammar.proofs.Spans.AnswersWithin.{moves-within}
use Rattle.facet_json_grammar.specs.Within.{NowWithin}
use Rattle.facet_json_reader.specs.declared.in_sight.Front.{Front}
use Rattle.facet_json_reader.specs.declared.place.Language.{Language}
use Rattle.facet_json_reader.specs.declared.refusal.Refused.{Refused}
use Rattle.facet_json_reader.specs.Inner.InSight.{reader_at, IsFront, IsFrontOf, PassesAt}
use Rattle.facet_json_reader.specs.PlaceViews.{language_of}
use Rattle.facet_json_reader.specs.Views.{passed_of, reader_of}
use Rattle.facet_json_parser.specs.declared.lookahead.Lookahead.{Lookahead as RustLookahead}
use Rattle.facet_json_parser.specs.declared.points.Point.{Point}
use Rattle.facet_json_parser.specs.Inner.Sight.{standing, StandsThere}
use Rattle.facet_json_parser.specs.Inner.Wanted.{PassesWanted}
use Rattle.facet_json_parser.specs.Lookahead.{spot_of}
use Rattle.facet_json_parser.specs.Steps.{PassesOne}
use Rattle.facet_json_parser.specs.Views.{now_of}
use Rattle.facet_json_parser.proofs.AnswersAreMoves.{next-answers, no_refusal}
use Rattle.facet_json_parser.proofs.LookaheadSteps.{passed-passes}
use Rattle.facet_json_parser.proofs.ParserWithin.{wanted-passes}
use Rattle.facet_json_parser.proofs.UnopenedContainers.{nothing_held}

-- One event is passed, and the parser is as far as the front behind it.
pub record PassesFar (now : Now) (e : Event) (g : Front) : Type 0 where
  pub passes : PassesWanted now e (standing now g)
  pub stands : StandsThere (standing now g) g

pub front-passes : (now : Now) (f g : Front) (e : Event) → StandsThere now f →
    PassesAt now.buffer (lenient plain) now.cursor.spot.place.stack f e g → PassesFar now e g
front-passes now f g e stands at =
    let stack = now.cursor.spot.place.stack in
    let there : Spot Reader = unpeeked (reader_of (reader_at stack g)) in
    let before : RustLookahead = record { reader = reader_at stack f; held = None; shown = false } in
    let spot : unpeeked (reader_of (reader_at stack f)) ≡ now.cursor.spot = ap (λ (x : Now). x.cursor.spot) stands.there in
    let one : PassesOne (on_input now.buffer (lenient plain)) (unpeeked (reader_of (reader_at stack f))) (Ok (Some e)) there =
    passed-passes now.buffer (lenient plain) (λ (_ : Unit {0}). e) before (reader_at stack g) (Some tt) refl at.one in
    let here = subst (λ s. PassesOne (on_input now.buffer now.language) s (Ok (Some e)) there) spot (rw stands.spoken one) in
    let move : Moves now next (event (Ok (Some e))) (standing now g) = next-answers now now (Some e) there refl stands.free here in
    record {
      passes = wanted-passes (λ (_ : Unit {0}). e) now (standing now g) (Some tt) stands.within move;
      stands = record {
        spoken = stands.spoken;
        there = refl;
        front = at.front;
        free = stands.free;
        within = (moves-within now stands.within _ move).parser;
      };
    }

-- ---- where a parser stands

no-held : (r : Reader) (held : Option Passed) (shown : Bool) → held ≡ None → spot_of (record { reader = r; held = held; shown = shown }) ≡ unpeeked r
no-held r None shown e = refl
no-held r (Some p) shown e = cc

-- A parser that holds no event is as far as its reader.
pub reader-stands : (input : List ℕ) (language : Language) (s : RustLookahead) (refusal : Option Refused) (points : List Point) (counter : ℕ) (f : Front) →
    is_some refusal ≡ false → is_some s.held ≡ false → NowWithin (now_of input language s refusal points counter) →
    IsFrontOf input (language_of language) s.reader f → StandsThere (now_of input language s refusal points counter) f
reader-stands input language s refusal points counter f free none within is =
    let now : Now = now_of input language s refusal points counter in
    let spot = no-held (reader_of s.reader) (option_map passed_of s.held) s.shown (ap (option_map passed_of) (nothing_held s.held none)) in
    let stack : now.cursor.spot.place.stack ≡ s.reader.contexts = ap (λ (x : Spot Reader). x.place.stack) spot in
    let same = ap (λ x. unpeeked (reader_of (reader_at x f))) stack ∙ ap (λ r. unpeeked (reader_of r)) is.there ∙ sym spot in
    record {
      spoken = is.spoken;
      there = ap (λ x. record now { cursor = record now.cursor { spot = x } }) same;
      front = rw stack (subst (λ l. IsFront input l s.reader.contexts f) is.spoken is.front);
      free = no_refusal refusal free;
      within = within;
    }
