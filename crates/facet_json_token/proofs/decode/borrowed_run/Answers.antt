-- A content whose run ends before it does is not its own text, and another is one run.
use Rattle.facet_json_token.proofs.DecodeSteps.{backslash-inside}
use Rattle.facet_json_token.proofs.decode.borrowed_run.Goals as goal

pub returns-then-run_end-end-clause-borrowed : goal.returns-then-run_end-end-clause-borrowed
returns-then-run_end-end-clause-borrowed c =
    let ends = c.run_end.ensures in
    λ is. backslash-inside c.args.buf.now c.args.start c.run_end.result c.args.end ends.ahead c.if-run_end-end.true
    c.requires.in_range (ends.stops c.if-run_end-end.true) is.0
