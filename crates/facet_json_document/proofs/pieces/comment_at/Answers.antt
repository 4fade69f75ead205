-- Without a comment no token is there.
use Rattle.std.proofs.Common.{arith}
use Rattle.facet_json_document.proofs.PiecesCut.{plain-none, end-none_closed}
use Rattle.facet_json_document.proofs.pieces.comment_at.Goals as goal

pub returns-in-Plain : goal.returns-in-Plain
returns-in-Plain c = rw c.in-Plain.is (plain-none c.args.text.now c.args.at c.requires)

pub returns-in-None : goal.returns-in-None
returns-in-None c = rw c.in-Jsonc.is (end-none_closed c.args.text.now c.args.at c.requires (omega (arith, c.in-None.ensures.lookup)))
