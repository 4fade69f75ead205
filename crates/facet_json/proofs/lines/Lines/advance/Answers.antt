-- Blank lines are passed, up to a line that is not blank, a refusal or the end.
use Rattle.std.proofs.Common.{Ok, ap, subst, ◌∙◌, rules}
use Rattle.facet_json.specs.Lines.{IsBlank}
use Rattle.facet_json.proofs.LinesRead.{blank-then, one-blank, blank-refused}
use Rattle.facet_json.proofs.lines.Lines.advance.Goals as goal

pub blank-preserved : goal.blank-preserved
blank-preserved g c =
    let passed = c.in-Ok-true.ensures.line (ap Ok c.in-Ok-true.field-0-test) in
    let is = c.is_blank.ensures.0 (search rules) in
    blank-then _ _ _ c.blank.invariant (one-blank _ _ _ passed (subst IsBlank (c.as_slice.ensures.value ∙ ap (λ s. s.line) c.self.view_is) is))

pub returns-in-Err-clause-err : goal.returns-in-Err-clause-err
returns-in-Err-clause-err g c = blank-refused _ _ _ c.in-Err.error c.blank.invariant c.in-Err.ensures.err
