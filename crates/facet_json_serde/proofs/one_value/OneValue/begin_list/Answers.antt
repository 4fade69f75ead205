use Rattle.std.proofs.Common.{◌≡◌, true, rules}
use Rattle.facet_json_serde.specs.OneValue.{takes_value}
use Rattle.facet_json_serde.proofs.BegunSteps.{served-goes_on, list-goes_on}
use Rattle.facet_json_serde.proofs.one_value.OneValue.begin_list.Goals as goal

pub invariant_of-self-in-Ok : goal.invariant_of-self-in-Ok
invariant_of-self-in-Ok c =
    let may : takes_value c.args.self.now.stage ≡ true = search rules in
    record {
      begun = rw (c.push_reserved.ensures.items, c.reserve.ensures.items)
          (served-goes_on _ _ _ _ _ _ _ _ c.begin_seq.result _ c.in-Ok.is c.begin_seq.ensures.serves (list-goes_on _ _ may) c.args.self.now.begun);
    }
