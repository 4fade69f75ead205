-- A line comment is found up to its line's end, or the text's.
use Rattle.std.proofs.Common.{◌-◌, ◌∙◌, ap, take, drop, arith}
use Rattle.facet_json_document.specs.Pieces.{trimmed}
use Rattle.facet_json_document.proofs.PiecesCut.{ended-at, last-at}
use Rattle.facet_json_document.proofs.pieces.line_comment_end.Goals as goal
use Rattle.facet_json_document.proofs.pieces.line_comment_end.Goals.{in-Some, in-None}

pub returns-clause-piece : goal.returns-clause-piece
returns-clause-piece c =
    let text = c.args.text.now in
    let at = c.args.at in
    let t = c.trimmed_end.ensures in
    elim c.match-line_end.branch [
      | in-Some w ↦
          ended-at text at c.requires.first c.requires.second c.trimmed_end.result w.in-Some.end w.in-Some.ensures.end
          (t.text ∙ ap (λ n. trimmed (take (n - at) (drop at text))) w.end-is) (omega (arith, t.within, w.end-is, w.in-Some.ensures.range))
      | in-None w ↦
          last-at text at c.requires.first c.requires.second c.trimmed_end.result w.in-None.ensures.end
          (t.text ∙ ap (λ n. trimmed (take (n - at) (drop at text))) w.end-is) (omega (arith, t.within, w.end-is))
    ]
