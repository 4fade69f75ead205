-- A comparison with one bound and one with one byte, lane by lane.
use Rattle.std.proofs.Common.{arith}
use Rattle.std.proofs.lemmas.Simd.{zip2_splat}
use Rattle.facet_json_token.specs.Inner.RfcWindow.{is_rfc_stop}
use Rattle.facet_format.proofs.Lanes.{equal, below, either, masked}
use Rattle.facet_json_token.proofs.runs.RfcPlainRun.stops.Goals as goal

pub returns : goal.returns
returns c =
    let v = c.args.window in
    let long = c.fits-window.0 in
    masked _ is_rfc_stop v _ (omega arith) c.fits-window.1 (either _ _ v (zip2_splat below v 16 _ long) (zip2_splat equal v 16 _ long)) tt
