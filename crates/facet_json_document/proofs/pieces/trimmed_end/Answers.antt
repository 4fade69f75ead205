-- White space at the end goes, and before any other byte nothing does.
use Rattle.std.proofs.Common.{◌∙◌, ◌-◌, get_or, take, drop, sym, ap, arith}
use Rattle.facet_json_document.specs.Pieces.{trimmed}
use Rattle.facet_json_document.proofs.PieceComments.{last-byte, trimmed-kept, trimmed-space}
use Rattle.facet_json_document.proofs.pieces.trimmed_end.Goals as goal

pub returns-then-not-is_blank-clause-text : goal.returns-then-not-is_blank-clause-text
returns-then-not-is_blank-clause-text c =
    let last = last-byte c.args.text.now c.args.at c.loop-end.end 0 c.loop-end-test.true (omega (arith, c.loop-end.invariant.within, c.requires.within)) in
    last ∙ sym (trimmed-kept _ _ (sym c.is_blank.ensures ∙ c.if-not-is_blank.true)) ∙ ap trimmed (sym last) ∙ c.loop-end.invariant.same

pub loop-end-preserved : goal.loop-end-preserved
loop-end-preserved c =
    let last = last-byte c.args.text.now c.args.at c.loop-end.end 0 c.loop-end-test.true (omega (arith, c.loop-end.invariant.within, c.requires.within)) in
    record {
      ordered = omega (arith, c.loop-end-test.true);
      within = omega (arith, c.loop-end.invariant.within);
      same = sym (trimmed-space (take (c.loop-end.end - 1 - c.args.at) (drop c.args.at c.args.text.now)) (get_or c.args.text.now (c.loop-end.end - 1) 0) (sym c.is_blank.ensures ∙ c.if-not-is_blank.false)) ∙ ap trimmed (sym last) ∙ c.loop-end.invariant.same;
    }
