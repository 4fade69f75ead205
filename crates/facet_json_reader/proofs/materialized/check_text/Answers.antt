-- A string without a text is refused as where it is decoded.
use Rattle.std.proofs.lemmas.Result.{err_from_is_err_and}
use Rattle.facet_json_reader.proofs.MeaninglessTokens.{escaped_unread, plain_unread}
use Rattle.facet_json_reader.proofs.materialized.check_text.Goals as goal

pub returns-in_err-check_content-clause-refused : goal.returns-in_err-check_content-clause-refused
returns-in_err-check_content-clause-refused c =
    let a = c.args in
    let p = err_from_is_err_and c.from_residual.result c.from_residual.ensures.1 in
    rw p.1 (escaped_unread a.buffer.now a.span a.start a.end a.has_escapes _ _ c.if-has_escapes.true c.requires c.in_err-check_content.ensures.refused p.2)

pub returns-in-None-clause-refused : goal.returns-in-None-clause-refused
returns-in-None-clause-refused c =
    let a = c.args in
    plain_unread a.buffer.now a.span a.start a.end a.has_escapes c.if-has_escapes.false c.requires (λ is. c.in-None.ensures.borrowed is.1)
