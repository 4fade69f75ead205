use Rattle.std.proofs.Common.{refl, sym}
use Rattle.std.proofs.lemmas.Result.{err_from_is_err_and}
use Rattle.facet_format.specs.Cursor.{peek}
use Rattle.facet_format.specs.Views.{event_of}
use Rattle.facet_json_core.specs.Meaning.Taking.{is_sought}
use Rattle.facet_json_core.proofs.Meaning.OneValue.WithinValues.{peek-looks, peek-looks_past}
use Rattle.facet_json_core.proofs.Meaning.Walks.PeekOnWalk.{peek-finds, peek-lacks, peek-no_end}
use Rattle.facet_json_core.proofs.Refusing.{call-tells}
use Rattle.facet_json_core.proofs.steps.ahead.comes.Goals as goal

pub returns-in_err-event-clause-lacks : goal.returns-in_err-event-clause-lacks
returns-in_err-event-clause-lacks c =
    let p = err_from_is_err_and c.from_residual.result c.from_residual.ensures.1 in
    rw (p.1, p.2) (peek-lacks _ _ _ _ refl c.in_err-event.ensures.steps)

pub returns-in-Some-clause-finds : goal.returns-in-Some-clause-finds
returns-in-Some-clause-finds c =
    let steps = rw c.in-Some.is at c.in_ok-event.ensures.steps in
    peek-finds (is_sought c.args.sought) _ _ (event_of c.in-Some.event) c.is_such.result _ (sym c.is_such.ensures) refl steps

pub returns-in-None-clause-finds : goal.returns-in-None-clause-finds
returns-in-None-clause-finds c =
    let steps = rw c.in-None.is at c.in_ok-event.ensures.steps in
    peek-no_end (is_sought c.args.sought) _ _ _ _ refl steps

pub returns-in_err-event-clause-tells : goal.returns-in_err-event-clause-tells
returns-in_err-event-clause-tells c =
    let p = err_from_is_err_and c.from_residual.result c.from_residual.ensures.1 in
    rw (p.1, p.2) (call-tells _ _ peek _ _ c.in_err-event.ensures.moves refl)

pub returns-in-Some-clause-looks : goal.returns-in-Some-clause-looks
returns-in-Some-clause-looks c =
    let moves = rw c.in-Some.is at c.in_ok-event.ensures.moves in
    peek-looks (is_sought c.args.sought) _ _ (event_of c.in-Some.event) c.is_such.result (sym c.is_such.ensures) moves

pub returns-in-None-clause-looks : goal.returns-in-None-clause-looks
returns-in-None-clause-looks c =
    let moves = rw c.in-None.is at c.in_ok-event.ensures.moves in
    peek-looks_past (is_sought c.args.sought) _ _ moves
