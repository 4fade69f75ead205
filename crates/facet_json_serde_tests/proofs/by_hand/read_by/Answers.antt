use Rattle.std.proofs.lemmas.Result.{IfOk-weaker}
use Rattle.facet_json_serde_tests.proofs.by_hand.read_by.Goals as goal

pub returns : goal.returns
returns g c = IfOk-weaker c.deserialize.result _ _ (λ f read. (c.new.result, c.deserialize.new.from, c.new.ensures.format, read)) c.deserialize.ensures
