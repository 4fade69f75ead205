use Rattle.std.proofs.Common.{subst, List, ℕ, refl}
use Rattle.std.proofs.lemmas.Result.{err_from_is_err_and}
use Rattle.facet_json_core.proofs.Meaning.Walks.NextOnWalk.{goes-keeps}
use Rattle.facet_json_tree.specs.Pointer.{IsPointer}
use Rattle.facet_json_tree.specs.PointerViews.{IsWrongAt}
use Rattle.facet_json_tree.proofs.PointerRefusals.{refuses}
use Rattle.facet_json_tree.proofs.PointerSplit.{is_pointer}
use Rattle.facet_json_core.proofs.TakenNext.{stays-put}
use Rattle.facet_json.proofs.pointer.find_pointer.Goals as goal

pub returns-in_err-check-clause-refuses : goal.returns-in_err-check-clause-refuses
returns-in_err-check-clause-refuses c =
    let p = err_from_is_err_and c.from_residual.result c.from_residual.ensures.1 in
    let error = c.in_err-check.field-0.0 in
    let at = subst (λ (text : List ℕ). IsWrongAt text error) c.as_bytes-bytes.ensures.value c.in_err-check.ensures.err in
    rw (p.1, p.2) (refuses c.args.pointer.now error at, refl)

pub returns-in_err-check-clause-keeps : goal.returns-in_err-check-clause-keeps
returns-in_err-check-clause-keeps c = goes-keeps _ _ (stays-put c.args.parser.now)

pub returns-clause-finds : goal.returns-clause-finds
returns-clause-finds c =
    let told = c.in_ok-check.ensures.ok in
    let is = is_pointer c.as_bytes-bytes.result.now told.0 told.1 in
    let text = c.as_bytes-bytes.ensures.value in
    record {
      names = is.0;
      pointer = subst (λ (text : List ℕ). IsPointer text is.0) text is.1;
      finds = λ read pointer. c.in_ok-found.ensures.finds read (rw text pointer);
    }

pub returns-in_err-found-clause-lacks : goal.returns-in_err-found-clause-lacks
returns-in_err-found-clause-lacks c =
    let p = err_from_is_err_and c.from_residual-in_err-found.result c.from_residual-in_err-found.ensures.1 in
    let told = c.in_ok-check.ensures.ok in
    let is = is_pointer c.as_bytes-bytes.result.now told.0 told.1 in
    let pointer = subst (λ (text : List ℕ). IsPointer text is.0) c.as_bytes-bytes.ensures.value is.1 in
    rw (p.1, p.2) (record { names = is.0; pointer = pointer; lacks = c.in_err-found.ensures.lacks is.0 is.1 })
