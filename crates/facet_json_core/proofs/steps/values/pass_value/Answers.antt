use Rattle.std.proofs.Common.{refl, rules}
use Rattle.std.proofs.lemmas.Result.{err_from_is_err_and}
use Rattle.facet_json_core.proofs.Meaning.Walks.SkipOnWalk.{answer-skips, answer-unskipped}
use Rattle.facet_format.specs.Cursor.{skip}
use Rattle.facet_json_core.proofs.Refusing.{call-tells}
use Rattle.facet_json_core.proofs.Meaning.Refusals.{skip-frees}
use Rattle.facet_json_core.proofs.Meaning.OneValue.PartsPassed.{skipped-value}
use Rattle.facet_json_core.proofs.steps.values.pass_value.Goals as goal

pub returns-in_err-skip_value-clause-unread : goal.returns-in_err-skip_value-clause-unread
returns-in_err-skip_value-clause-unread c =
    let p = err_from_is_err_and c.from_residual.result c.from_residual.ensures.1 in
    rw (p.1, p.2) (answer-unskipped _ _ _ _ refl c.in_err-skip_value.ensures.steps)

pub returns-clause-read : goal.returns-clause-read
returns-clause-read c = answer-skips _ _ _ refl c.in_ok-skip_value.ensures.steps

pub returns-clause-keeps : goal.returns-clause-keeps
returns-clause-keeps c = search rules

pub returns-clause-within : goal.returns-clause-within
returns-clause-within c = search rules

pub returns-in_err-skip_value-clause-tells : goal.returns-in_err-skip_value-clause-tells
returns-in_err-skip_value-clause-tells c =
    let p = err_from_is_err_and c.from_residual.result c.from_residual.ensures.1 in
    rw (p.1, p.2) (call-tells _ _ skip _ _ c.in_err-skip_value.ensures.moves refl)

pub returns-clause-free : goal.returns-clause-free
returns-clause-free c = skip-frees _ _ c.in_ok-skip_value.ensures.moves

pub returns-clause-one_value : goal.returns-clause-one_value
returns-clause-one_value c after = skipped-value _ _ after c.in_ok-skip_value.ensures.moves
