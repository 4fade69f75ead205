use Rattle.std.proofs.Common.{◌==◌, ap, ap₂}
use Rattle.facet_format.proofs.numeral.Parts.is_bare.Goals as goal

pub returns : goal.returns
returns c = ap₂ (λ len sign. len == sign) c.len.ensures (ap (λ p. p.sign) c.self.view_is)
