use Rattle.std.proofs.Common.{ap}
use Rattle.facet_format.proofs.numeral.Parts.digits_start.Goals as goal

pub returns : goal.returns
returns c = ap (λ p. p.sign) c.self.view_is
