use Rattle.std.proofs.Common.{subst, List, ℕ}
use Rattle.std.proofs.lemmas.Result.{err_from_is_err_and}
use Rattle.facet_json_tree.specs.Pointer.{IsPointer}
use Rattle.facet_json_tree.specs.PointerViews.{IsWrongAt}
use Rattle.facet_json_tree.proofs.PointerRefusals.{refuses}
use Rattle.facet_json_tree.proofs.PointerSplit.{is_pointer}
use Rattle.facet_json_tree.proofs.pointer.checked.Goals as goal

pub returns-in_err-check-clause-err : goal.returns-in_err-check-clause-err
returns-in_err-check-clause-err c =
    let p = err_from_is_err_and c.from_residual.result c.from_residual.ensures.1 in
    let error = c.in_err-check.field-0.0 in
    let at = subst (λ (text : List ℕ). IsWrongAt text error) c.as_bytes-bytes.ensures.value c.in_err-check.ensures.err in
    rw (p.1, p.2) (refuses c.args.text.now error at)

pub returns-clause-ok : goal.returns-clause-ok
returns-clause-ok c =
    let told = c.in_ok-check.ensures.ok in
    let is = is_pointer c.as_bytes-bytes.result.now told.0 told.1 in
    (is.0, subst (λ (text : List ℕ). IsPointer text is.0) c.as_bytes-bytes.ensures.value is.1, c.as_bytes-bytes.ensures.value)
