use Rattle.std.proofs.Common.{IfOk, subst}
use Rattle.facet_json_serde.specs.OneValue.{IsTextOfTree}
use Rattle.facet_json_serde.proofs.writing.to_vec.Goals as goal

pub returns : goal.returns
returns g c = subst (λ o. IfOk c.to_vec_with_options.result (λ v. IsTextOfTree o v.items)) c.new.ensures c.to_vec_with_options.ensures
