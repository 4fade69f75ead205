-- No `*/` begins before a star, and one that begins here is the first.
use Rattle.std.proofs.Common.{◌+◌, ◌∙◌, sym, arith}
use Rattle.facet_json_token.proofs.CommentRuns.{block_end-run}
use Rattle.facet_json_token.proofs.GapSteps.{block_end-more, block_end-here}
use Rattle.facet_json_token.proofs.cutting.block_end.Goals as goal

pub loop-at-init : goal.loop-at-init
loop-at-init c =
    let ends = c.run_end-at.ensures in
    record {
      ahead = omega (arith, ends.ahead);
      within = omega (arith, ends.within);
      same = block_end-run c.args.buffer.now c.args.from c.run_end-at.result ends.value;
    }

pub loop-at-preserved : goal.loop-at-preserved
loop-at-preserved c =
    let ends = c.run_end-at-in-loop-at.ensures in
    let more = block_end-more c.args.buffer.now c.loop-at.at c.loop-at-test.true (sym c.starts_with.ensures.value ∙ c.if-starts_with.false) in
    record {
      ahead = omega (arith, ends.ahead, c.loop-at.invariant.ahead);
      within = omega (arith, ends.within);
      same = block_end-run c.args.buffer.now (c.loop-at.at + 1) c.run_end-at-in-loop-at.result ends.value ∙ more ∙ c.loop-at.invariant.same;
    }

pub returns-then-starts_with-clause-end : goal.returns-then-starts_with-clause-end
returns-then-starts_with-clause-end c =
    block_end-here c.args.buffer.now c.loop-at.at (sym c.starts_with.ensures.value ∙ c.if-starts_with.true)
    ∙ c.loop-at.invariant.same
