-- A piece more leaves the end of the gap where it is, and where there is none it ends.
use Rattle.std.proofs.Common.{sym, ◌∙◌, arith, drop}
use Rattle.facet_json_token.specs.Gap.{whole}
use Rattle.facet_json_token.specs.Views.{mode_of}
use Rattle.facet_json_token.proofs.Gaps.{gap_len-none}
use Rattle.facet_json_token.proofs.GapSteps.{past_gap-piece}
use Rattle.facet_json_token.proofs.cutting.skip_gap.Goals as goal

pub returns-then-len-eq0-clause-end : goal.returns-then-len-eq0-clause-end
returns-then-len-eq0-clause-end c =
    let none =
    gap_len-none (mode_of c.args.mode) whole (drop c.loop-mode.at c.args.buffer.now)
    (sym c.piece_len-len.ensures.len ∙ c.if-len-eq0.true) in
    omega arith

pub loop-mode-preserved : goal.loop-mode-preserved
loop-mode-preserved c =
    let piece =
    past_gap-piece (mode_of c.args.mode) c.args.buffer.now c.loop-mode.at c.piece_len-len.result
    c.piece_len-len.ensures.len c.piece_len-len.ensures.within in
    record {
      within = c.piece_len-len.ensures.within;
      same = piece ∙ c.loop-mode.invariant.same;
    }
