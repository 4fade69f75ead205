-- Where a content with a backslash is refused, by its first fault.
use Rattle.std.proofs.Common.{true, refl, rules}
use Rattle.std.proofs.lemmas.Result.{err_from_is_err_and}
use Rattle.facet_json_reader.proofs.MeaninglessTokens.{escaped_unread}
use Rattle.facet_json_reader.proofs.materialized.escaped_text.Goals as goal

pub returns-in_err-check_content-in-Err-clause-refused : goal.returns-in_err-check_content-in-Err-clause-refused
returns-in_err-check_content-in-Err-clause-refused c =
    let a = c.args in
    let e = c.in_err-check_content-in-Err in
    let p = err_from_is_err_and c.from_residual.result c.from_residual.ensures.1 in
    rw p.1 (escaped_unread a.buffer.now a.span a.start a.end true _ _ refl c.requires e.ensures.refused p.2)

pub returns-in-Ok-clause-text : goal.returns-in-Ok-clause-text
returns-in-Ok-clause-text c = search rules

pub returns-in-Ok-clause-refused : goal.returns-in-Ok-clause-refused
returns-in-Ok-clause-refused c = search rules
