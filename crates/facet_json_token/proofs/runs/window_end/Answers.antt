-- Without a bit the window is passed, and else the run ends at the first one.
use Rattle.std.proofs.Common.{sym, ◌∙◌, arith}
use Rattle.facet_format.proofs.Windows.{mask_through}
use Rattle.facet_json_token.proofs.RunEnds.{window-stops}
use Rattle.facet_json_token.proofs.runs.window_end.Goals as goal

pub returns-then-found-eq0 : goal.returns-then-found-eq0
returns-then-found-eq0 g c =
    mask_through g.R.Run.is_end c.args.buffer.now c.args.at 16 c.requires (sym c.stops-found.ensures ∙ c.if-found-eq0.true)

pub returns : goal.returns
returns g c =
    let run = window-stops g.R.Run.is_end c.args.buffer.now c.args.at c.stops-found.result c.requires c.stops-found.ensures (omega arith) in
    (omega (arith, run.0), omega (arith, run))
