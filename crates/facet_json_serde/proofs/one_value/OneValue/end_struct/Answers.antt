use Rattle.std.proofs.Common.{arith}
use Rattle.facet_json_serde.proofs.BegunSteps.{served-goes_on, struct_end-goes_on}
use Rattle.facet_json_serde.proofs.one_value.OneValue.end_struct.Goals as goal

pub invariant_of-self : goal.invariant_of-self
invariant_of-self c = record {
  begun = rw (c.after_value-self.ensures, c.unwrap_or-outer.ensures)
      (served-goes_on _ _ _ _ _ _ _ _ c.end_struct.result _ c.in-Ok.is c.end_struct.ensures.serves
      (struct_end-goes_on _ _ _ c.pop.result c.in-Key.is c.pop.ensures.items (λ h. c.pop.ensures.variant.1 (omega (arith, c.args.self.now.around.ok.0, h)))) c.args.self.now.begun);
}
