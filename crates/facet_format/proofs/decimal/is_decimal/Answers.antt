-- A number with a dot or an exponent mark has a value where it has digits enough.
use Rattle.std.proofs.Common.{◌≡◌, true, false, sym, ◌∙◌}
use Rattle.facet_format.specs.Number.{float}
use Rattle.facet_format.proofs.NumberText.{number-none, number-decimal, number-no_decimal}
use Rattle.facet_format.proofs.decimal.is_decimal.Goals as goal

pub returns-in-Some-clause-yes : goal.returns-in-Some-clause-yes
returns-in-Some-clause-yes c = λ (yes : c.has_value.result ≡ true).
    number-decimal c.args.text.now c.in-Some.parts c.in-Some.ensures.0.0 c.in-Some.ensures.1 (sym c.has_value.ensures ∙ yes)

pub returns-in-Some-clause-no : goal.returns-in-Some-clause-no
returns-in-Some-clause-no c = λ (no : c.has_value.result ≡ false).
    number-no_decimal c.args.text.now c.in-Some.parts c.in-Some.ensures.0.0 c.in-Some.ensures.1 (sym c.has_value.ensures ∙ no)

pub returns-in-None-clause-no : goal.returns-in-None-clause-no
returns-in-None-clause-no c = λ no. number-none c.args.text.now float c.in-None.ensures
