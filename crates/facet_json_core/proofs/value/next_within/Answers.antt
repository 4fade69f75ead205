use Rattle.std.proofs.Common.{inl}
use Rattle.std.proofs.lemmas.Result.{err_from_is_err_and}
use Rattle.facet_json_core.proofs.Refusing.{event-tells, mismatch-about}
use Rattle.facet_json_core.proofs.value.next_within.Goals as goal

pub returns-in_err-event-clause-refused : goal.returns-in_err-event-clause-refused
returns-in_err-event-clause-refused c free =
    let p = err_from_is_err_and c.from_residual.result c.from_residual.ensures.1 in
    rw (p.1, p.2) (inl (c.in_err-event.ensures.refused free))

pub returns-then-not-begins_value-clause-tells : goal.returns-then-not-begins_value-clause-tells
returns-then-not-begins_value-clause-tells c = event-tells c.in_ok-event.ensures.passed (mismatch-about _ _ c.mismatch.ensures.told)
