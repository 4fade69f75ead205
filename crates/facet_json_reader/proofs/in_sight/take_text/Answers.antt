-- The text gives its event.
use Rattle.std.proofs.Common.{refl, arith}
use Rattle.facet_json_reader.specs.PlaceViews.{least_of}
use Rattle.facet_json_reader.specs.declared.takes.Piece.TheVariants as pieces
use Rattle.facet_json_reader.proofs.Fronts.{untold}
use Rattle.facet_json_reader.proofs.TakenPieces.{closed-allowed, closed-quoted, told-taken, whole-quoted}
use Rattle.facet_json_reader.proofs.in_sight.take_text.Goals as goal

pub returns-in_err-end-clause-left : goal.returns-in_err-end-clause-left
returns-in_err-end-clause-left g c = untold _ _ c.from_residual.result

pub take_piece-requires : goal.take_piece-requires
take_piece-requires g c =
    let closed = c.in_ok-end.ensures in
    λ k. ((refl, tt), (omega (arith, closed.0.ordered, closed.0.within), (_, (closed-quoted _ c.args.input.now c.args.at c.in_ok-end.end closed.0 closed.1, refl))))

pub returns-clause-scalar : goal.returns-clause-scalar
returns-clause-scalar g c =
    let buffer = c.args.input.now in
    let language = g.L.InLanguage.language in
    let spoken = c.language.ensures in
    let text = rw spoken at c.in_ok-end.ensures in
    let end = c.in_ok-end.end in
    let allowed = closed-allowed language buffer c.args.at end text.0 text.1 in
    let quoted = whole-quoted buffer c.args.at end text.0.ordered text.0.within in
    let value = allowed.1 in
    told-taken (g.T.Takes.takes buffer) buffer language c.args.at _ _ _ pieces.Text c.take_piece.result allowed.0 c.take_piece.ensures.len c.take_piece.ensures.taken
    (closed-quoted (least_of language) buffer c.args.at end text.0 text.1, rw (value, quoted) refl)
