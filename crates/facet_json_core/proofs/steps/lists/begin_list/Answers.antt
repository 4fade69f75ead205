use Rattle.std.proofs.lemmas.Result.{err_from_is_err_and, IfErr-weaker, on_ok_weaker}
use Rattle.facet_format.specs.Views.{refusal_of}
use Rattle.facet_json_core.specs.Meaning.ListSteps.{nodes_of}
use Rattle.facet_json_core.proofs.Meaning.Leaves.LeafReadings.{none-unread}
use Rattle.facet_json_core.proofs.Meaning.Sequences.ListSteps.{no_list-begins}
use Rattle.facet_json_core.proofs.Refusing.{event-tells, mismatch-about}
use Rattle.facet_json_core.proofs.steps.lists.begin_list.Goals as goal

pub returns-in_err-next_of_value-in-None-clause-refused : goal.returns-in_err-next_of_value-in-None-clause-refused
returns-in_err-next_of_value-in-None-clause-refused c =
    let p = err_from_is_err_and c.from_residual.result c.from_residual.ensures.1 in
    let lacks = rw c.in-None.ensures at c.in_err-next_of_value-in-None.ensures.lacks in
    rw (p.1, p.2) (none-unread nodes_of _ _ lacks)

pub returns-in_ok-next_of_value-in-None-clause-begins : goal.returns-in_ok-next_of_value-in-None-clause-begins
returns-in_ok-next_of_value-in-None-clause-begins c =
    let walks = rw c.in-None.ensures at c.in_ok-next_of_value-in-None.ensures.walks in
    on_ok_weaker c.array_in.result (λ begins. record { given = _; begins = begins; walks = walks }) c.array_in.ensures.begins

pub returns-in_ok-next_of_value-in-None-clause-refused : goal.returns-in_ok-next_of_value-in-None-clause-refused
returns-in_ok-next_of_value-in-None-clause-refused c =
    let walks = rw c.in-None.ensures at c.in_ok-next_of_value-in-None.ensures.walks in
    IfErr-weaker c.array_in.result _ _ (λ e none. no_list-begins _ _ _ (refusal_of e) none walks) c.array_in.ensures.refused

pub returns-in_ok-next_of_value-in-None-clause-tells : goal.returns-in_ok-next_of_value-in-None-clause-tells
returns-in_ok-next_of_value-in-None-clause-tells c =
    let passed = rw c.in-None.ensures at c.in_ok-next_of_value-in-None.ensures.passed in
    IfErr-weaker c.array_in.result _ _ (λ e told. event-tells passed (mismatch-about _ _ told)) c.array_in.ensures.told
