use Rattle.std.proofs.Common.{refl}
use Rattle.std.proofs.lemmas.Result.{err_from_is_err_and}
use Rattle.facet_format.specs.Views.{span_of}
use Rattle.facet_json_document.proofs.OneDocuments.{strict-passed, strict-lacks}
use Rattle.facet_json_document.proofs.checking.check_strict.Goals as goal

pub returns-in_err-pass_up-clause-only : goal.returns-in_err-pass_up-clause-only
returns-in_err-pass_up-clause-only c d =
    let p = err_from_is_err_and c.from_residual.result c.from_residual.ensures.1 in
    let was = rw c.new_strict.ensures at c.in_err-pass_up.ensures.refused in
    rw (p.1, p.2) (strict-lacks c.args.input.now _ d (was refl))

pub returns-clause-document : goal.returns-clause-document
returns-clause-document c =
    let up = rw c.new_strict.ensures at c.in_ok-pass_up.ensures.up in
    strict-passed c.args.input.now (span_of c.in_ok-pass_up.field-0) up
