use Rattle.std.proofs.lemmas.Result.{IfErr-weaker, err_from_is_err_and, on_ok_weaker}
use Rattle.facet_format.specs.Views.{refusal_of}
use Rattle.facet_json_core.specs.Meaning.Objects.{members_of}
use Rattle.facet_json_core.proofs.Meaning.Leaves.LeafReadings.{none-unread}
use Rattle.facet_json_core.proofs.Meaning.Objects.MembersOnWalk.{object-unread}
use Rattle.facet_json_core.proofs.Refusing.{event-tells, mismatch-about}
use Rattle.facet_json_core.proofs.steps.objects.begin_object.Goals as goal

pub returns-in_err-next_of_value-in-None-clause-unread : goal.returns-in_err-next_of_value-in-None-clause-unread
returns-in_err-next_of_value-in-None-clause-unread c =
    let p = err_from_is_err_and c.from_residual.result c.from_residual.ensures.1 in
    let lacks = rw c.in-None.ensures at c.in_err-next_of_value-in-None.ensures.lacks in
    rw (p.1, p.2) (none-unread members_of _ _ lacks)

pub returns-in_ok-next_of_value-in-None-clause-begun : goal.returns-in_ok-next_of_value-in-None-clause-begun
returns-in_ok-next_of_value-in-None-clause-begun c =
    let walks = rw c.in-None.ensures at c.in_ok-next_of_value-in-None.ensures.walks in
    on_ok_weaker c.object_in.result (λ begins. (_, begins, walks)) c.object_in.ensures.begins

pub returns-in_ok-next_of_value-in-None-clause-unread : goal.returns-in_ok-next_of_value-in-None-clause-unread
returns-in_ok-next_of_value-in-None-clause-unread c =
    let walks = rw c.in-None.ensures at c.in_ok-next_of_value-in-None.ensures.walks in
    IfErr-weaker c.object_in.result _ _ (λ e other. object-unread _ _ _ (refusal_of e) other walks) c.object_in.ensures.refused

pub returns-in_ok-next_of_value-in-None-clause-tells : goal.returns-in_ok-next_of_value-in-None-clause-tells
returns-in_ok-next_of_value-in-None-clause-tells c =
    let passed = rw c.in-None.ensures at c.in_ok-next_of_value-in-None.ensures.passed in
    IfErr-weaker c.object_in.result _ _ (λ e told. event-tells passed (mismatch-about _ _ told)) c.object_in.ensures.told
