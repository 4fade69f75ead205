use Rattle.std.proofs.Common.{◌∙◌}
use Rattle.facet_format.proofs.HeldTexts.{held-bytes}
use Rattle.facet_json.proofs.pointer.is_named.Goals as goal

pub returns : goal.returns
returns c = rw (c.as_bytes.ensures.value ∙ c.as_str.ensures.value ∙ held-bytes c.args.key) at c.stands_for.ensures
