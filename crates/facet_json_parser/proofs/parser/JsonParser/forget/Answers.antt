use Rattle.std.proofs.Common.{◌∙◌, sym, ap, map}
use Rattle.facet_json_parser.specs.Views.{point_of, kept_spot}
use Rattle.facet_json_parser.proofs.AnswersAreMoves.{point-dropped}
use Rattle.facet_json_parser.proofs.KeptSpots.{without-spots}
use Rattle.facet_json_parser.proofs.PointsByPlace.{dropped-ready}
use Rattle.facet_json_parser.proofs.parser.JsonParser.forget.Goals as goal

pub invariant_of-self : goal.invariant_of-self
invariant_of-self c =
    let i = c.self.invariant in
    (dropped-ready _ _ _ _ _ _ _ c.args.point.0 i.0 (c.drop_point.ensures _ _ _ i.0.keeps), i.1)

pub returns : goal.returns
returns c =
    let left = ap (map kept_spot) (c.drop_point.ensures _ _ _ c.self.invariant.0.keeps) ∙ sym (without-spots c.args.point.0 (map point_of c.self.inside.points.items)) in
    point-dropped _ c.args.self.now c.args.point.0 _ c.self.view_is left
