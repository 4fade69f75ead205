use Rattle.std.proofs.lemmas.Grind.{common_steps}
use Rattle.std.proofs.Common.{sym, ap, ◌∙◌, drop, take, arith}
use Rattle.facet_format.proofs.NumberText.{has_value-behind}
use Rattle.facet_format.proofs.decimal.has_value.Goals as goal

pub returns-else-not-has_exponent : goal.returns-else-not-has_exponent
returns-else-not-has_exponent c =
    let text = c.args.text.now in
    let front = c.split_at.ensures.front ∙ ap (λ n. take n text) c.exponent_start.ensures in
    let back = c.split_at.ensures.back ∙ ap (λ n. drop n text) c.exponent_start.ensures in
    c.any_digit-else-not-has_exponent.ensures
    ∙ has_value-behind c.args.parts text _ _ front back (sym c.any_digit.ensures ∙ c.if-any_digit.true)
    (sym c.has_exponent.ensures ∙ c.if-not-has_exponent.false)

pub returns-then-not-has_exponent : goal.returns-then-not-has_exponent
returns-then-not-has_exponent c = grind (arith, common_steps)

pub returns-else-any_digit : goal.returns-else-any_digit
returns-else-any_digit c = grind (arith, common_steps)
