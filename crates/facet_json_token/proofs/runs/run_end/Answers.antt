-- Up to the end of the buffer the run is seen whole.
use Rattle.std.proofs.Common.{arith}
use Rattle.facet_json_token.proofs.RunEnds.{end-of_run}
use Rattle.facet_json_token.proofs.runs.run_end.Goals as goal

pub returns-clause-value : goal.returns-clause-value
returns-clause-value g c =
    let ends = c.run_end_bytewise.ensures in
    let run = end-of_run g.R.Run.is_end c.args.buffer.now c.loop-at.at c.run_end_bytewise.result c.loop-at.invariant.within (omega (arith, ends.within)) ends.run (λ less. ends.stops (omega (arith, less))) in
    omega (arith, run, c.loop-at.invariant.same)
