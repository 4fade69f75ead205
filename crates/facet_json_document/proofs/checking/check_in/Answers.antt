use Rattle.std.proofs.lemmas.Result.{err_from_is_err_and}
use Rattle.facet_json_token.specs.Views.{mode_of}
use Rattle.facet_json_document.proofs.OneDocuments.{has-document, document-lacks}
use Rattle.facet_json_document.proofs.checking.check_in.Goals as goal

pub returns-in_err-last_token-clause-only : goal.returns-in_err-last_token-clause-only
returns-in_err-last_token-clause-only c d =
    let p = err_from_is_err_and c.from_residual.result c.from_residual.ensures.1 in
    rw (p.1, p.2) (document-lacks c.args.input.now (mode_of c.args.mode) _ d c.in_err-last_token.ensures.refused)

pub returns-clause-document : goal.returns-clause-document
returns-clause-document c = has-document c.args.input.now (mode_of c.args.mode) _ c.in_ok-last_token.ensures.up
