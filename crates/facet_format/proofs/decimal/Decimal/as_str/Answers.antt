use Rattle.std.proofs.Common.{ap, ◌∙◌, rules}
use Rattle.facet_format.specs.Event.{bytes_of}
use Rattle.facet_format.proofs.HeldTexts.{held-bytes}
use Rattle.facet_format.proofs.decimal.Decimal.as_str.Goals as goal

pub returns-clause-text : goal.returns-clause-text
returns-clause-text c = c.as_str.ensures.value ∙ held-bytes c.self.inside.0 ∙ ap bytes_of c.self.view_is

pub returns-clause-number : goal.returns-clause-number
returns-clause-number c = search rules
