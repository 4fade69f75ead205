use Rattle.std.proofs.Common.{◌∙◌, sym, ap, map}
use Rattle.facet_json_parser.specs.Views.{point_of}
use Rattle.facet_json_parser.proofs.PointsByPlace.{either_way, without-missing}
use Rattle.facet_json_parser.proofs.points.drop_point.Goals as goal

pub returns : goal.returns
returns c = λ buffer language counter are.
    either_way _ _ c.bring_back.result (λ none. ap (map point_of) none.1 ∙ sym (without-missing c.args.number _ none.0)) (λ s taken. (taken buffer language counter are).1)
    c.bring_back.ensures
