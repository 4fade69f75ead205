use Rattle.std.proofs.Common.{◌≡◌, false, Some, refl, sym, ap, ◌∙◌, rules}
use Rattle.std.specs.Option.{option_map}
use Rattle.std.proofs.lemmas.Result.{err_from_is_err_and}
use Rattle.facet_format.specs.Views.{event_of}
use Rattle.facet_json_grammar.specs.Future.{finished}
use Rattle.facet_json_grammar.specs.Reader.{future_at}
use Rattle.facet_json_reader.specs.PlaceViews.{language_of}
use Rattle.facet_json_reader.specs.Views.{passed_of}
use Rattle.facet_json_parser.specs.Lookahead.{lookahead_with, reader_before, spot_of, TakesHeld}
use Rattle.facet_json_parser.specs.Views.{lookahead_of}
use Rattle.facet_json_parser.proofs.LookaheadSteps.{fills-sound, refused-passes, take-passes, take-sound, taken-passes, taken-sound, over-passes, held-not_none}
use Rattle.facet_json_parser.proofs.UnopenedContainers.{nothing_held}
use Rattle.facet_json_parser.proofs.lookahead.Lookahead.next.Goals as goal

pub returns-then-is_some-clause-sound : goal.returns-then-is_some-clause-sound
returns-then-is_some-clause-sound c =
    take-sound c.args.input.now (language_of c.args.language) _ _ c.take.result c.requires.sound c.take.ensures

pub returns-then-is_some-clause-passed : goal.returns-then-is_some-clause-passed
returns-then-is_some-clause-passed c =
    let there = sym c.is_some.ensures ∙ c.if-is_some.true in
    take-passes c.args.input.now (language_of c.args.language) _ _ c.take.result c.requires.sound.filled
    (held-not_none c.args.self.now.held (future_at c.args.input.now (language_of c.args.language) (reader_before (lookahead_of c.args.self.now)) ≡ finished) there) c.take.ensures

pub returns-in_err-held-clause-passed : goal.returns-in_err-held-clause-passed
returns-in_err-held-clause-passed c =
    let p = err_from_is_err_and c.from_residual.result c.from_residual.ensures.1 in
    let none = ap (option_map passed_of) (nothing_held c.args.self.now.held (sym c.is_some.ensures ∙ c.if-is_some.false)) in
    rw (p.1, p.2, ap spot_of c.in_err-held.ensures.refused.0)
    (refused-passes c.args.input.now (language_of c.args.language) (lookahead_of c.args.self.now) _ none c.in_err-held.ensures.refused.1)

pub returns-in_default-clause-passed : goal.returns-in_default-clause-passed
returns-in_default-clause-passed c =
    over-passes c.args.input.now (language_of c.args.language) (lookahead_of c.args.self.now) (lookahead_of c.begin.new.self) (ap (option_map passed_of) c.in_ok-held.ensures.free)
    (rw c.in_default.is at c.in_ok-held.ensures.spot) (c.in_ok-held.ensures.over c.in_default.is)

pub taken : (c : goal.After-into_event) → TakesHeld (lookahead_with (Some (passed_of c.in-Some.held)) (lookahead_of c.begin.new.self)) (event_of c.into_event.result)
    (lookahead_of (record { reader = c.pass.new.self; held = c.begin.new.self.held; shown = false }))
taken c = record {
  p = passed_of c.in-Some.held;
  held = refl;
  event = ap event_of c.into_event.ensures;
  new = λ stack opened. rw (c.pass.ensures stack opened, c.in_ok-held.ensures.free) refl;
}

pub returns-clause-sound : goal.returns-clause-sound
returns-clause-sound c =
    let held = rw c.in-Some.is at c.in_ok-held.ensures.held in
    let same = rw c.in-Some.is at c.in_ok-held.ensures.spot in
    let good = fills-sound c.args.input.now (language_of c.args.language) (lookahead_of c.args.self.now) _ c.requires.sound held same in
    taken-sound c.args.input.now (language_of c.args.language) _ _ _ good (taken c)

pub returns-clause-passed : goal.returns-clause-passed
returns-clause-passed c =
    let held = rw c.in-Some.is at c.in_ok-held.ensures.held in
    let same = rw c.in-Some.is at c.in_ok-held.ensures.spot in
    rw (← same) (taken-passes c.args.input.now (language_of c.args.language) _ _ _ held (taken c))

pub returns-in_err-held-clause-sound : goal.returns-in_err-held-clause-sound
returns-in_err-held-clause-sound c = search rules

pub returns-in_default-clause-sound : goal.returns-in_default-clause-sound
returns-in_default-clause-sound c = search rules
