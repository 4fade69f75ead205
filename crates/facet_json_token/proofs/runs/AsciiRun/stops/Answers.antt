-- A comparison with one byte, lane by lane.
use Rattle.std.proofs.Common.{arith, cond, leb}
use Rattle.facet_format.proofs.Lanes.{masked}
use Rattle.facet_json_token.specs.Inner.Ascii.{is_high}
use Rattle.facet_json_token.proofs.AsciiRuns.{splat_left}
use Rattle.facet_json_token.proofs.runs.AsciiRun.stops.Goals as goal

pub returns : goal.returns
returns c =
    let v = c.args.window in
    masked _ is_high v _ (omega arith) c.fits-window.1 (splat_left (λ a b. cond (leb a b) 255 0) _ 16 v c.fits-window.0) tt
