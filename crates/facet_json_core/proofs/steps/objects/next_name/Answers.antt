use Rattle.std.proofs.Common.{refl}
use Rattle.std.proofs.lemmas.Result.{IfOk-weaker, IfErr-weaker}
use Rattle.facet_json_core.proofs.Refusing.{event-tells, mismatch-about}
use Rattle.facet_json_core.proofs.steps.objects.next_name.Goals as goal

pub returns-in-Some-Key-default-clause-passed : goal.returns-in-Some-Key-default-clause-passed
returns-in-Some-Key-default-clause-passed c =
    let took = rw c.in-Some-Key-default.field-0-0-is at c.in-Some-Key-default.ensures in (_, refl, took.walks)

pub returns-in-Some-End-default-clause-passed : goal.returns-in-Some-End-default-clause-passed
returns-in-Some-End-default-clause-passed c =
    let took = rw c.in-Some-End-default.field-0-0-is at c.in-Some-End-default.ensures in (_, refl, took.walks)

pub returns-in_ok-next_of_value-in-None-clause-passed : goal.returns-in_ok-next_of_value-in-None-clause-passed
returns-in_ok-next_of_value-in-None-clause-passed c =
    let walks = rw c.in-None.ensures at c.in_ok-next_of_value-in-None.ensures.walks in
    IfOk-weaker c.name_in.result _ _ (λ name taken. (_, taken, walks)) c.name_in.ensures.taken

pub returns-in_ok-next_of_value-in-None-clause-tells : goal.returns-in_ok-next_of_value-in-None-clause-tells
returns-in_ok-next_of_value-in-None-clause-tells c =
    let passed = rw c.in-None.ensures at c.in_ok-next_of_value-in-None.ensures.passed in
    IfErr-weaker c.name_in.result _ _ (λ e told. event-tells passed (mismatch-about _ _ told)) c.name_in.ensures.told

pub returns-in-Some-Key-default-clause-next : goal.returns-in-Some-Key-default-clause-next
returns-in-Some-Key-default-clause-next c =
    let took = rw c.in-Some-Key-default.field-0-0-is at c.in-Some-Key-default.ensures in (_, refl, took.passed)

pub returns-in-Some-End-default-clause-next : goal.returns-in-Some-End-default-clause-next
returns-in-Some-End-default-clause-next c =
    let took = rw c.in-Some-End-default.field-0-0-is at c.in-Some-End-default.ensures in (_, refl, took.passed)

pub returns-in_ok-next_of_value-in-None-clause-next : goal.returns-in_ok-next_of_value-in-None-clause-next
returns-in_ok-next_of_value-in-None-clause-next c =
    let passed = rw c.in-None.ensures at c.in_ok-next_of_value-in-None.ensures.passed in
    IfOk-weaker c.name_in.result _ _ (λ name taken. (_, taken, passed)) c.name_in.ensures.taken
