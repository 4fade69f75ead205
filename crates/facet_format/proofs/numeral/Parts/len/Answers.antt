use Rattle.std.proofs.Common.{◌+◌, ap, ◌∙◌}
use Rattle.facet_format.proofs.numeral.Parts.len.Goals as goal

pub returns : goal.returns
returns c =
    let p = c.args.self in
    ap (λ start. start + c.self.inside.exponent) c.exponent_start.ensures
    ∙ ap (λ q. p.sign + p.digits + p.fraction + q.exponent) c.self.view_is
