-- A block comment is found where it is closed.
use Rattle.facet_json_document.proofs.PiecesCut.{block-at, block-none}
use Rattle.facet_json_document.proofs.pieces.block_at.Goals as goal

pub returns-in-Some : goal.returns-in-Some
returns-in-Some c = block-at c.args.text.now c.args.at c.requires.first c.requires.second c.in-Some.end c.in-Some.ensures.end

pub returns-in-None : goal.returns-in-None
returns-in-None c = block-none c.args.text.now c.args.at c.requires.first c.requires.second c.in-None.ensures.end
