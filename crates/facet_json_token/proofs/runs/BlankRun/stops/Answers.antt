-- Four comparisons with one byte each, lane by lane.
use Rattle.std.proofs.Common.{map, ap, ◌∙◌, arith}
use Rattle.std.proofs.lemmas.Simd.{zip2_splat, map-map}
use Rattle.facet_json_token.specs.Inner.Window.{is_no_space}
use Rattle.facet_format.proofs.Lanes.{equal, either, masked}
use Rattle.facet_json_token.proofs.runs.BlankRun.stops.Goals as goal

pub returns : goal.returns
returns c =
    let v = c.args.window in
    let long = c.fits-window.0 in
    let lanes = zip2_splat equal v 16 in
    masked _ is_no_space v _ (omega arith) c.fits-window.1
    (ap (map _) (either _ _ v (either _ _ v (either _ _ v (zip2_splat equal v 16 _ long) (zip2_splat equal v 16 _ long)) (zip2_splat equal v 16 _ long)) (zip2_splat equal v 16 _ long)) ∙ map-map _ _ v) tt
