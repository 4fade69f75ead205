-- Where nothing stands behind a document, the text is one.
use Rattle.std.proofs.lemmas.Result.{err_from_is_err_and, IfErr-weaker, on_ok_weaker}
use Rattle.facet_format.specs.Views.{refusal_of, span_of}
use Rattle.facet_json_token.specs.Views.{mode_of}
use Rattle.facet_json_document.proofs.OneDocuments.{nothing-behind, more-behind, none-there, one-lacks}
use Rattle.facet_json_document.proofs.checking.check_whole.Goals as goal

pub returns-in_err-last-clause-refused : goal.returns-in_err-last-clause-refused
returns-in_err-last-clause-refused c =
    let p = err_from_is_err_and c.from_residual.result c.from_residual.ensures.1 in
    rw (p.1, p.2) (none-there c.args.text.now (mode_of c.args.mode) _ c.in_err-last.ensures.refused)

pub returns-in_err-last-clause-only : goal.returns-in_err-last-clause-only
returns-in_err-last-clause-only c one =
    let p = err_from_is_err_and c.from_residual.result c.from_residual.ensures.1 in
    rw (p.1, p.2)
    (one-lacks c.args.text.now (mode_of c.args.mode) _ one (none-there c.args.text.now (mode_of c.args.mode) _ c.in_err-last.ensures.refused))

pub returns-clause-only : goal.returns-clause-only
returns-clause-only c one =
    IfErr-weaker c.pass_behind.result _ _
    (λ e b. one-lacks c.args.text.now (mode_of c.args.mode) (refusal_of e) one
    (more-behind c.args.text.now (mode_of c.args.mode) (span_of c.in_ok-last.last) (refusal_of e) c.in_ok-last.ensures.up b))
    c.pass_behind.ensures.refused

pub returns-clause-document : goal.returns-clause-document
returns-clause-document c =
    on_ok_weaker c.pass_behind.result
    (λ done. nothing-behind c.args.text.now (mode_of c.args.mode) (span_of c.in_ok-last.last) c.in_ok-last.ensures.up done) c.pass_behind.ensures.done

pub returns-clause-refused : goal.returns-clause-refused
returns-clause-refused c =
    IfErr-weaker c.pass_behind.result _ _
    (λ e b. more-behind c.args.text.now (mode_of c.args.mode) (span_of c.in_ok-last.last) (refusal_of e) c.in_ok-last.ensures.up b)
    c.pass_behind.ensures.refused
