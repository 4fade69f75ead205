use Rattle.std.proofs.Common.{◌≡◌}
use Rattle.std.proofs.lemmas.Result.{err_from_is_err_and}
use Rattle.facet_json_grammar.specs.Future.{finished}
use Rattle.facet_json_grammar.specs.Now.{future_of}
use Rattle.facet_json_command.proofs.Reformatting.{document_passed, where_document}
use Rattle.facet_json_command.proofs.run.pass_document.Goals as goal

pub returns-in_err-transcode-clause-refused : goal.returns-in_err-transcode-clause-refused
returns-in_err-transcode-clause-refused c input mode w fresh is =
    let p = err_from_is_err_and c.from_residual.result c.from_residual.ensures.1 in
    rw (p.1, p.2) (c.in_err-transcode.ensures.refused input mode w fresh is)

pub returns-in-Err-clause-refused : goal.returns-in-Err-clause-refused
returns-in-Err-clause-refused c input mode w fresh is =
    absurd (c.in-Err.ensures.only c.in_ok-transcode.ensures.free (c.in_ok-transcode.ensures.over input mode w fresh is))

pub returns-in-Err-clause-only : goal.returns-in-Err-clause-only
returns-in-Err-clause-only c input language w fresh is has =
    let told = c.in_ok-transcode.ensures in
    let over = where_document language input _ (future_of c.transcode.new.parser ≡ finished) fresh
    (λ mode at root value d. told.over input mode w at is) (λ at root value d. (told.strict_only input w at is root value d).1) has in
    absurd (c.in-Err.ensures.only told.free over)

pub returns-in-Ok-clause-document : goal.returns-in-Ok-clause-document
returns-in-Ok-clause-document c input language w fresh is =
    let told = c.in_ok-transcode.ensures in
    document_passed language input w _ _ (future_of c.transcode.new.parser ≡ finished) fresh
    (λ mode at. told.document input mode w at is) (λ at over. told.strict input w at is over) c.in-Ok.ensures.over.over
