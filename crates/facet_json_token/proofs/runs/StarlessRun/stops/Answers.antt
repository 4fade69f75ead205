-- A comparison with one byte, lane by lane.
use Rattle.std.proofs.Common.{arith}
use Rattle.std.proofs.lemmas.Simd.{zip2_splat}
use Rattle.facet_json_token.specs.Inner.Window.{is_star}
use Rattle.facet_format.proofs.Lanes.{equal, masked}
use Rattle.facet_json_token.proofs.runs.StarlessRun.stops.Goals as goal

pub returns : goal.returns
returns c =
    let v = c.args.window in
    masked _ is_star v _ (omega arith) c.fits-window.1 (zip2_splat equal v 16 _ c.fits-window.0) tt
