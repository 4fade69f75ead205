-- Events that a lookahead's reader passes one after another are passed by the parser.
use Rattle.std.proofs.Common.{◌≡◌, ℕ, false, List, Option, Some, None, refl, ap}
use Rattle.std.specs.Prelude.{is_some, Ok}
use Rattle.std.specs.Option.{option_map}
use Rattle.facet_format.specs.Cursor.{next, event}
use Rattle.facet_format.specs.Event.{Event}
use Rattle.facet_json_grammar.specs.Move.{Moves}
use Rattle.facet_json_grammar.specs.Now.{Now}
use Rattle.facet_json_grammar.specs.Within.{NowWithin}
use Rattle.facet_json_grammar.proofs.Spans.AnswersWithin.{moves-within}
use Rattle.facet_json_reader.specs.declared.place.Language.{Language}
use Rattle.facet_json_reader.specs.declared.reader.Reader.{Reader as RustReader}
use Rattle.facet_json_reader.specs.declared.refusal.Refused.{Refused}
use Rattle.facet_json_reader.specs.Inner.InSight.{PassesSeveral, none_more, one_more, none_taken}
use Rattle.facet_json_reader.specs.Inner.Quick.{PassesQuickly}
use Rattle.facet_json_reader.specs.PlaceViews.{language_of}
use Rattle.facet_json_reader.specs.Views.{passed_of}
use Rattle.facet_json_parser.specs.declared.lookahead.Lookahead.{Lookahead as RustLookahead}
use Rattle.facet_json_parser.specs.declared.points.Point.{Point}
use Rattle.facet_json_parser.specs.Inner.Wanted.{PassesMore, none_passed, one_passed, ReaderPasses, reader_stays, reader_moves}
use Rattle.facet_json_parser.specs.Ready.{IsSound}
use Rattle.facet_json_parser.specs.Views.{lookahead_of, now_of}
use Rattle.facet_json_parser.proofs.AnswersAreMoves.{quick-answers}
use Rattle.facet_json_parser.proofs.LookaheadSteps.{passed-sound, passed-passes}
use Rattle.facet_json_parser.proofs.ParserWithin.{wanted-passes}
use Rattle.facet_json_parser.proofs.UnopenedContainers.{nothing_held}

module _ {T : Type 0} (takes : Option Event → T → T → Type 0) (input : List ℕ) (language : Language) where
  -- A lookahead that holds no event stays sound.
  several-sound : (s : RustLookahead) (x : T) (t : RustReader) (y : T) → option_map passed_of s.held ≡ None → IsSound input (language_of language) (lookahead_of s) →
      PassesSeveral takes input (language_of language) s.reader x t y → IsSound input (language_of language) (lookahead_of (record s { reader = t }))
  several-sound s x _ _ none sound none_more = sound
  several-sound s x _ _ none sound (one_more r t y z e several one taken) =
      let before = several-sound s x r y none sound several in
      passed-sound input (language_of language) (λ (_ : Unit {0}). e) r t (option_map passed_of s.held) s.shown (Some tt) none before one
  several-sound s x _ _ none sound (none_taken r y z several stays) = several-sound s x r y none sound several

  pub reader-sound : (s u : RustLookahead) (x y : T) → IsSound input (language_of language) (lookahead_of s) →
      ReaderPasses takes input (language_of language) s x u y → IsSound input (language_of language) (lookahead_of u)
  reader-sound s _ x _ sound reader_stays = sound
  reader-sound s _ x _ sound (reader_moves t y none several) = several-sound s x t y (ap (option_map passed_of) (nothing_held s.held none)) sound several

  module _ (refusal : Option Refused) (points : List Point) (counter : ℕ) (free : is_some refusal ≡ false) where
    abbrev now_at : RustLookahead → Now
    now_at s = now_of input language s refusal points counter

    -- One event more.
    one-move : (s : RustLookahead) (t : RustReader) (e : Event) → option_map passed_of s.held ≡ None →
        PassesQuickly input (language_of language) s.reader e t → Moves (now_at s) next (event (Ok (Some e))) (now_at (record s { reader = t }))
    one-move s t e none one =
        quick-answers (λ (_ : Unit {0}). e) input language language s (record s { reader = t }) refusal points counter (now_at s) (Some tt) refl free refl
        (passed-passes input (language_of language) (λ (_ : Unit {0}). e) s t (Some tt) none one)

    record Seen (s : RustLookahead) (x : T) (t : RustReader) (y : T) : Type 0 where
      more : PassesMore takes (now_at s) x (now_at (record s { reader = t })) y
      within : NowWithin (now_at (record s { reader = t }))

    seen : (s : RustLookahead) (x : T) (t : RustReader) (y : T) → option_map passed_of s.held ≡ None → NowWithin (now_at s) →
        PassesSeveral takes input (language_of language) s.reader x t y → Seen s x t y
    seen s x _ _ none within none_more = record { more = none_passed; within = within }
    seen s x _ _ none within (one_more r t y z e several one taken) =
        let before = seen s x r y none within several in
        let at : RustLookahead = record s { reader = r } in
        let move = one-move at t e none one in
        record {
          more = one_passed (now_at at) _ y z e before.more (wanted-passes (λ (_ : Unit {0}). e) (now_at at) _ (Some tt) before.within move) taken;
          within = (moves-within (now_at at) before.within _ move).parser;
        }
    seen s x _ _ none within (none_taken r y z several stays) =
        let before = seen s x r y none within several in
        record { more = PassesMore.none_taken (now_at (record s { reader = r })) y z before.more stays; within = before.within }

    pub reader-passes : (s u : RustLookahead) (x y : T) → NowWithin (now_at s) → ReaderPasses takes input (language_of language) s x u y →
        PassesMore takes (now_at s) x (now_at u) y
    reader-passes s _ x _ within reader_stays = none_passed
    reader-passes s _ x _ within (reader_moves t y none several) =
        (seen s x t y (ap (option_map passed_of) (nothing_held s.held none)) within several).more
