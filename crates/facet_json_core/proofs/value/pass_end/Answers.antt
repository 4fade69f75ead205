use Rattle.std.proofs.Common.{refl}
use Rattle.std.proofs.lemmas.Result.{err_from_is_err_and}
use Rattle.facet_format.specs.Cursor.{next}
use Rattle.facet_json_core.proofs.Refusing.{call-tells, event-tells, mismatch-about}
use Rattle.facet_json_core.proofs.value.pass_end.Goals as goal

pub returns-in_err-event-clause-tells : goal.returns-in_err-event-clause-tells
returns-in_err-event-clause-tells c =
    let p = err_from_is_err_and c.from_residual.result c.from_residual.ensures.1 in
    rw (p.1, p.2) (call-tells _ _ next _ _ c.in_err-event.ensures.moves refl)

pub returns-clause-tells : goal.returns-clause-tells
returns-clause-tells c = event-tells (rw c.in-Some.is at c.in_ok-event.ensures.next) (mismatch-about _ _ c.mismatch.ensures.told)
