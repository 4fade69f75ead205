use Rattle.std.proofs.Common.{refl}
use Rattle.std.proofs.lemmas.Result.{err_from_is_err_and}
use Rattle.facet_format.specs.Views.{refusal_of}
use Rattle.facet_json_core.proofs.Meaning.Walks.NextOnWalk.{answer-lacks, answer-no_end}
use Rattle.facet_format.specs.Cursor.{next}
use Rattle.facet_json_core.proofs.NextEventComes.{next-refused}
use Rattle.facet_json_core.proofs.Refusing.{call-tells, over-tells}
use Rattle.facet_json_core.proofs.value.next_in_line.Goals as goal

pub returns-in_err-event-clause-lacks : goal.returns-in_err-event-clause-lacks
returns-in_err-event-clause-lacks c =
    let p = err_from_is_err_and c.from_residual.result c.from_residual.ensures.1 in
    rw (p.1, p.2) (answer-lacks _ _ _ _ refl c.in_err-event.ensures.steps)

pub returns-in-None-clause-lacks : goal.returns-in-None-clause-lacks
returns-in-None-clause-lacks c =
    let steps = rw c.in-None.is at c.in_ok-event.ensures.steps in
    answer-no_end _ _ (refusal_of c.ended.result) _ refl steps

pub returns-in_err-event-clause-tells : goal.returns-in_err-event-clause-tells
returns-in_err-event-clause-tells c =
    let p = err_from_is_err_and c.from_residual.result c.from_residual.ensures.1 in
    rw (p.1, p.2) (call-tells _ _ next _ _ c.in_err-event.ensures.moves refl)

pub returns-in-None-clause-tells : goal.returns-in-None-clause-tells
returns-in-None-clause-tells c = over-tells (rw c.in-None.is at c.in_ok-event.ensures.end) c.ended.ensures.told

pub returns-in_err-event-clause-refused : goal.returns-in_err-event-clause-refused
returns-in_err-event-clause-refused c free =
    let p = err_from_is_err_and c.from_residual.result c.from_residual.ensures.1 in
    rw (p.1, p.2) (next-refused _ free refl c.in_err-event.ensures.moves)

pub returns-in-Some-clause-passed : goal.returns-in-Some-clause-passed
returns-in-Some-clause-passed c = rw c.in-Some.is at c.in_ok-event.ensures.next

pub returns-in-Some-clause-steps : goal.returns-in-Some-clause-steps
returns-in-Some-clause-steps c = rw c.in-Some.is at c.in_ok-event.ensures.steps
