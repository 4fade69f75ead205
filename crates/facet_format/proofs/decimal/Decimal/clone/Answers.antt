use Rattle.std.proofs.Common.{ap, sym, ◌∙◌}
use Rattle.std.proofs.lemmas.Result.{err_from_is_err_and}
use Rattle.facet_format.specs.Event.{is_owned}
use Rattle.facet_format.proofs.decimal.Decimal.clone.Goals as goal

pub returns-in_err-text : goal.returns-in_err-text
returns-in_err-text c =
    let p = err_from_is_err_and c.from_residual.result c.from_residual.ensures.1 in
    rw p.1 (ap is_owned (sym c.self.view_is) ∙ c.in_err-text.ensures)

pub returns : goal.returns
returns c = c.in_ok-text.ensures ∙ c.self.view_is
