use Rattle.std.proofs.Common.{◌≡◌, true, rules}
use Rattle.facet_json_serde.specs.OneValue.{takes_value}
use Rattle.facet_json_serde.proofs.BegunSteps.{served-goes_on_as, decimal-taken, value-goes_on, scalar-tree}
use Rattle.facet_json_serde.proofs.one_value.OneValue.number.Goals as goal

pub invariant_of-self : goal.invariant_of-self
invariant_of-self c =
    let may : takes_value c.args.self.now.stage ≡ true = search rules in
    let tree = scalar-tree _ c.requires in
    record {
      begun = rw (c.after_value-self.ensures)
          (served-goes_on_as _ _ _ _ _ _ _ _ _ c.raw_scalar.result _ c.in-Ok.is c.raw_scalar.ensures.serves (decimal-taken _ _ c.args.text.now)
          (value-goes_on tree.0 _ _ _ tree.2 tree.1 may) c.args.self.now.begun);
    }
