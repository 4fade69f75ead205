use Rattle.std.proofs.Common.{IfOk, subst, string_bytes}
use Rattle.facet_json_serde.specs.OneValue.{IsTextOfTree}
use Rattle.facet_json_serde.proofs.writing.to_string.Goals as goal

pub returns : goal.returns
returns g c =
    subst (λ o. IfOk c.to_string_with_options.result (λ s. IsTextOfTree o (string_bytes s))) c.new.ensures c.to_string_with_options.ensures
