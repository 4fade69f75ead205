use Rattle.std.proofs.Common.{◌+◌, ap, ◌∙◌}
use Rattle.facet_format.proofs.numeral.Parts.exponent_start.Goals as goal

pub returns : goal.returns
returns c =
    ap (λ start. start + c.self.inside.digits + c.self.inside.fraction) c.digits_start.ensures
    ∙ ap (λ p. c.args.self.sign + p.digits + p.fraction) c.self.view_is
