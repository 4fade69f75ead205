-- A token is found where one is cut.
use Rattle.std.proofs.Common.{arith}
use Rattle.facet_json_token.specs.Views.{mode_of}
use Rattle.facet_json_document.proofs.PiecesCut.{piece-at, piece-there, nothing-at, told-none, end-none}
use Rattle.facet_json_document.proofs.pieces.token_at.Goals as goal

pub overflow_add-result : goal.overflow_add-result
overflow_add-result c =
    let r = c.requires in
    let piece = piece-at (mode_of c.args.mode) c.args.text.now c.args.at c.args.first r.first r.no_space r.no_slash c.in-Ok.token c.in-Ok.ensures.answer c.in_default.not-Eof in
    omega (arith, piece.0)

pub returns-in-Eof : goal.returns-in-Eof
returns-in-Eof c =
    let r = c.requires in
    nothing-at (mode_of c.args.mode) c.args.text.now c.args.at c.args.first r.first r.no_space r.no_slash
    (λ t e. end-none c.in-Ok.token _ t c.in-Ok.ensures.answer c.in-Eof.is e)

pub returns-in_default : goal.returns-in_default
returns-in_default c =
    let r = c.requires in
    rw c.sort_of.ensures
    (piece-there (mode_of c.args.mode) c.args.text.now c.args.at c.args.first r.first r.no_space r.no_slash c.in-Ok.token c.in-Ok.ensures.answer c.in_default.not-Eof)

pub returns-in-Err : goal.returns-in-Err
returns-in-Err c =
    let r = c.requires in
    nothing-at (mode_of c.args.mode) c.args.text.now c.args.at c.args.first r.first r.no_space r.no_slash
    (λ t e. told-none c.in-Err.field-0 _ t c.in-Err.ensures.answer e)
