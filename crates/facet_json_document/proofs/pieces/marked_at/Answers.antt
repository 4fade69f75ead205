-- Before another byte a slash begins no comment.
use Rattle.std.proofs.lemmas.Bool.{ne_eqb}
use Rattle.facet_json_document.proofs.PiecesCut.{other-none}
use Rattle.facet_json_document.proofs.pieces.marked_at.Goals as goal

pub returns-else-second-eq47 : goal.returns-else-second-eq47
returns-else-second-eq47 c =
    other-none c.args.text.now c.args.at c.requires.first c.args.second c.requires.second (ne_eqb _ _ c.if-second-eq42.false) (ne_eqb _ _ c.if-second-eq47.false)
