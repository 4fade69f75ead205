use Rattle.std.proofs.Common.{true, IfOk, ap, ◌∙◌, subst}
use Rattle.facet_json_grammar.specs.Text.{Options}
use Rattle.facet_json_serde.specs.OneValue.{IsTextOfTree}
use Rattle.facet_json_serde.proofs.writing.to_vec_pretty.Goals as goal

pub returns : goal.returns
returns g c =
    subst (λ o. IfOk c.to_vec_with_options.result (λ v. IsTextOfTree o v.items)) (c.pretty.ensures ∙ ap {A = Options} (λ o. record o { pretty = true }) c.new.ensures)
    c.to_vec_with_options.ensures
