use Rattle.facet_json_serde.proofs.BegunSteps.{nothing-begun}
use Rattle.facet_json_serde.proofs.one_value.OneValue.new.Goals as goal

pub invariant_of-result : goal.invariant_of-result
invariant_of-result c = record { begun = rw (c.new.ensures.items) (nothing-begun _ _ c.with_options.ensures) }
