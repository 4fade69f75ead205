use Rattle.std.proofs.Common.{refl}
use Rattle.std.proofs.lemmas.Result.{err_from_is_err_and}
use Rattle.facet_json_core.proofs.Meaning.Walks.RawOnWalk.{answer-captures, answer-uncaptured}
use Rattle.facet_format.specs.Cursor.{capture}
use Rattle.facet_json_core.proofs.Refusing.{call-tells}
use Rattle.facet_json_core.proofs.Meaning.Refusals.{capture-frees}
use Rattle.facet_json_core.proofs.Meaning.OneValue.PartsPassed.{captured-value}
use Rattle.facet_json_facet.proofs.raw.captured.Goals as goal

pub returns-in_err-text-clause-unread : goal.returns-in_err-text-clause-unread
returns-in_err-text-clause-unread c =
    let p = err_from_is_err_and c.from_residual.result c.from_residual.ensures.1 in
    rw (p.1, p.2) (answer-uncaptured _ _ _ _ refl c.in_err-text.ensures.steps)

pub returns-clause-read : goal.returns-clause-read
returns-clause-read c =
    let steps = rw c.unwrap.ensures at c.in_ok-text.ensures.steps in
    answer-captures _ _ _ _ refl steps

pub returns-in_err-text-clause-tells : goal.returns-in_err-text-clause-tells
returns-in_err-text-clause-tells c =
    let p = err_from_is_err_and c.from_residual.result c.from_residual.ensures.1 in
    rw (p.1, p.2) (call-tells _ _ capture _ _ c.in_err-text.ensures.moves refl)

pub returns-clause-free : goal.returns-clause-free
returns-clause-free c = capture-frees _ _ _ c.in_ok-text.ensures.moves

pub returns-clause-one_value : goal.returns-clause-one_value
returns-clause-one_value c = captured-value _ _ _ c.in_ok-text.ensures.moves
