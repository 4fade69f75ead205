use Rattle.std.proofs.Common.{◌∙◌}
use Rattle.facet_format.proofs.HeldTexts.{held-bytes}
use Rattle.facet_json_core.proofs.steps.find.is_named.Goals as goal

pub returns : goal.returns
returns c = rw (c.as_str.ensures.value ∙ held-bytes c.args.key) at c.eq.ensures
