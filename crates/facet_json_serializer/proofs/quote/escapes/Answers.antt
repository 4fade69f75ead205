-- A comparison with one bound and three with one byte each, lane by lane.
use Rattle.std.proofs.Common.{arith}
use Rattle.std.proofs.lemmas.Simd.{zip2_splat}
use Rattle.facet_json_serializer.specs.Inner.Window.{needs_escape}
use Rattle.facet_format.proofs.Lanes.{equal, below, either, masked}
use Rattle.facet_json_serializer.proofs.quote.escapes.Goals as goal

pub returns : goal.returns
returns c =
    let v = c.args.bytes in
    let long = c.fits-bytes.0 in
    let controls = zip2_splat below v 16 _ long in
    let quotes = either _ _ v controls (zip2_splat equal v 16 _ long) in
    let backslashes = either _ _ v quotes (zip2_splat equal v 16 _ long) in
    masked _ needs_escape v _ (omega arith) c.fits-bytes.1 (either _ _ v backslashes (zip2_splat equal v 16 _ long)) tt
