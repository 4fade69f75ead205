-- The literal that stands there is taken.
use Rattle.facet_json_reader.proofs.Fronts.{untold}
use Rattle.facet_json_reader.proofs.TakenPieces.{told-taken}
use Rattle.facet_json_reader.proofs.in_sight.take_word.Goals as goal

pub returns-in_err-len-clause-left : goal.returns-in_err-len-clause-left
returns-in_err-len-clause-left g c = untold _ _ c.from_residual.result

pub returns-clause-scalar : goal.returns-clause-scalar
returns-clause-scalar g c =
    λ language first value is tells here.
    let there = c.in_ok-len.ensures.word language first value is here in
    told-taken (g.T.Takes.takes c.args.input.now) c.args.input.now language c.args.at _ _ _ c.args.piece c.take_piece.result there.0
    c.take_piece.ensures.len c.take_piece.ensures.taken (rw (there.1) (tells _))
