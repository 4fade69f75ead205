use Rattle.std.proofs.Common.{arith}
use Rattle.facet_json_serde.proofs.BegunSteps.{served-goes_on, list_end-goes_on}
use Rattle.facet_json_serde.proofs.one_value.OneValue.end_list.Goals as goal

pub invariant_of-self : goal.invariant_of-self
invariant_of-self c = record {
  begun = rw (c.after_value-self.ensures, c.unwrap_or-outer.ensures)
      (served-goes_on _ _ _ _ _ _ _ _ c.end_seq.result _ c.in-Ok.is c.end_seq.ensures.serves
      (list_end-goes_on _ _ _ c.pop.result c.in-Item.is c.pop.ensures.items (λ h. c.pop.ensures.variant.1 (omega (arith, c.args.self.now.around.ok.0, h)))) c.args.self.now.begun);
}
