use Rattle.std.proofs.Common.{sym, subst}
use Rattle.facet_json_serializer.specs.OptionsViews.{options_of}
use Rattle.facet_json_serde.specs.OneValue.{IsTextOfTree}
use Rattle.facet_json_serde.proofs.writing.to_string_with_options.Goals as goal

pub returns-in-Ok : goal.returns-in-Ok
returns-in-Ok g c =
    subst (λ v. IsTextOfTree (options_of c.args.options.now) v.items) (sym c.in-Ok.ensures.ok) c.in_ok-to_vec_with_options.ensures
