use Rattle.std.proofs.Common.{true, IfOk, ap, ◌∙◌, subst, string_bytes}
use Rattle.facet_json_grammar.specs.Text.{Options}
use Rattle.facet_json_serde.specs.OneValue.{IsTextOfTree}
use Rattle.facet_json_serde.proofs.writing.to_string_pretty.Goals as goal

pub returns : goal.returns
returns g c =
    subst (λ o. IfOk c.to_string_with_options.result (λ s. IsTextOfTree o (string_bytes s)))
    (c.pretty.ensures ∙ ap {A = Options} (λ o. record o { pretty = true }) c.new.ensures) c.to_string_with_options.ensures
