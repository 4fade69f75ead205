-- Two comparisons with one byte each and one with the bound.
use Rattle.std.proofs.Common.{arith}
use Rattle.std.proofs.lemmas.Simd.{zip2_splat}
use Rattle.facet_format.proofs.Lanes.{equal, below}
use Rattle.facet_json_reader.proofs.StopLanes.{unescaped-masked}
use Rattle.facet_json_reader.proofs.text.UnescapedEnds.stops.Goals as goal

pub returns : goal.returns
returns c =
    let v = c.args.window in
    let long = c.fits-window.0 in
    unescaped-masked v c.args.least (omega arith) (zip2_splat equal v 32 _ long) (zip2_splat equal v 32 _ long)
    (zip2_splat below v 32 _ long)
