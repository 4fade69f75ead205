use Rattle.facet_json_token.proofs.ShapeIsCut as shapes
use Rattle.facet_json_scan.proofs.laws.cuts.shape_is_unique.Goals as goal

pub returns : goal.returns
returns c = shapes.shape_is_unique
