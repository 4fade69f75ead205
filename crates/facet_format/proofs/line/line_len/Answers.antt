use Rattle.std.proofs.Common.{◌≡◌, get_or, sym, ap, arith}
use Rattle.std.proofs.lemmas.List.Sums.{position_or_len_is}
use Rattle.facet_format.specs.Line.{is_feed}
use Rattle.facet_format.proofs.line.line_len.Goals as goal

pub returns-else-text-end-ne10-clause-end : goal.returns-else-text-end-ne10-clause-end
returns-else-text-end-ne10-clause-end c =
    let feed : get_or c.args.text.now c.loop-end.end 0 ≡ 10 = omega (arith, c.if-text-end-ne10.false) in
    sym (position_or_len_is is_feed c.args.text.now c.loop-end.end 0 c.loop-end.invariant.within c.loop-end.invariant.none
    (λ _. ap is_feed feed))

pub returns-after-loop-end-clause-end : goal.returns-after-loop-end-clause-end
returns-after-loop-end-clause-end c =
    sym (position_or_len_is is_feed c.args.text.now c.loop-end.end 0 c.loop-end.invariant.within c.loop-end.invariant.none
    (λ inside. absurd (omega (arith, inside, c.loop-end-test.false))))
