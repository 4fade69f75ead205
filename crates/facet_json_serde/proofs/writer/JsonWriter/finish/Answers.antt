use Rattle.std.proofs.Common.{◌≡◌, true, rules, subst}
use Rattle.std.specs.Prelude.{IfOk}
use Rattle.facet_json_serde.specs.OneValue.{IsTextOfTree}
use Rattle.facet_json_serde.proofs.writer.JsonWriter.finish.Goals as goal

pub returns : goal.returns
returns c =
    let has : c.has_options.result ≡ true = search rules in
    subst (λ o. IfOk c.finish.result (λ v. IsTextOfTree o v.items)) (c.has_options.ensures has) c.finish.ensures
