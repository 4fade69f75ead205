use Rattle.facet_json_serde.proofs.BegunSteps.{begun-text}
use Rattle.facet_json_serde.proofs.one_value.OneValue.finish.Goals as goal

pub returns-in-Ok : goal.returns-in-Ok
returns-in-Ok c = begun-text _ _ _ _ c.in-Ok.ensures.0 _ c.in-Whole.is c.in-Ok.ensures.1 c.in-Ok.ensures.2 c.args.self.begun
