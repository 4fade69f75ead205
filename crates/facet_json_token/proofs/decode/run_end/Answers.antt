-- What a run of other bytes says of the bytes up to its end, and of the byte there.
use Rattle.std.proofs.Common.{arith}
use Rattle.facet_json_token.proofs.PlainRuns.{run-plain, run-stops}
use Rattle.facet_json_token.proofs.decode.run_end.Goals as goal

pub returns-clause-plain : goal.returns-clause-plain
returns-clause-plain c =
    let ends = c.run_end_within.ensures in
    run-plain c.args.buf.now c.args.at c.run_end_within.result ends.ahead ends.run

pub returns-clause-stops : goal.returns-clause-stops
returns-clause-stops c =
    let ends = c.run_end_within.ensures in
    λ is. run-stops c.args.buf.now c.args.at c.run_end_within.result (ends.stops is) (omega arith)
