-- Two comparisons with one byte each and two with bounds.
use Rattle.std.proofs.Common.{arith}
use Rattle.std.proofs.lemmas.Simd.{zip2_splat, zip2_splat_left}
use Rattle.facet_format.proofs.Lanes.{equal, below, at_most}
use Rattle.facet_json_reader.proofs.StopLanes.{ordinary-masked}
use Rattle.facet_json_reader.proofs.text.OrdinaryEnds.stops.Goals as goal

pub returns : goal.returns
returns c =
    let v = c.args.window in
    let long = c.fits-window.0 in
    ordinary-masked v c.args.least (omega arith) (zip2_splat equal v 32 _ long) (zip2_splat equal v 32 _ long)
    (zip2_splat below v 32 _ long) (zip2_splat_left at_most _ 32 v long)
