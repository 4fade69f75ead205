use Rattle.std.proofs.Common.{◌∙◌, sym, ap, map}
use Rattle.std.specs.Option.{option_map}
use Rattle.facet_json_parser.specs.Lookahead.{spot_of}
use Rattle.facet_json_parser.specs.Views.{lookahead_of, point_of, kept_spot, now_of}
use Rattle.facet_json_parser.proofs.KeptSpots.{found-spot, without-spots}
use Rattle.facet_json_parser.proofs.PointsByPlace.{old-ready}
use Rattle.facet_json_grammar.proofs.MoveIsStep.{move-steps}
use Rattle.facet_json_parser.proofs.AnswersAreMoves.{restore-brings, restore-leaves}
use Rattle.facet_json_parser.proofs.ParserWithin.{restore-uses}
use Rattle.facet_json_parser.proofs.parser.JsonParserFormatParser.restore.Goals as goal

pub invariant_of-self : goal.invariant_of-self
invariant_of-self c =
    let back = c.in-Some.ensures _ _ _ c.self.invariant.0.keeps in (
      old-ready _ _ _ _ _ (map point_of c.bring_back.new.points.items) _ c.args.point.0 (lookahead_of c.in-Some.lookahead) c.self.invariant.0 back.0 back.1,
      c.self.invariant.1,
    )

pub returns-in-Some : goal.returns-in-Some
returns-in-Some c =
    let i = c.self.inside in
    let back = c.in-Some.ensures _ _ _ c.self.invariant.0.keeps in
    let here = found-spot c.args.point.0 (map point_of i.points.items) ∙ ap (option_map spot_of) back.0 in
    let left = ap (map kept_spot) back.1 ∙ sym (without-spots c.args.point.0 (map point_of i.points.items)) in
    let move = restore-brings _ c.args.self.now (map kept_spot (map point_of c.bring_back.new.points.items)) _ (spot_of (lookahead_of c.in-Some.lookahead)) c.self.view_is here left in
    let used = restore-uses _ _ _ move in
    record { steps = move-steps _ _ _ _ move; moves = move; input = move.input; points = used.0; counter = used.1 }

pub returns-in_default : goal.returns-in_default
returns-in_default c =
    let i = c.self.inside in
    let none = found-spot c.args.point.0 (map point_of i.points.items) ∙ ap (option_map spot_of) c.in_default.ensures.0 in
    let move = restore-leaves _ c.args.self.now _ _ c.self.view_is
    (ap (λ ps. now_of i.input.now i.language i.lookahead i.refusal ps i.counter) c.in_default.ensures.1) none in
    let used = restore-uses _ _ _ move in
    record { steps = move-steps _ _ _ _ move; moves = move; input = move.input; points = used.0; counter = used.1 }
