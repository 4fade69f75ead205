use Rattle.facet_json_token.specs.Gap.{jsonc}
use Rattle.facet_json_facet.proofs.reading.from_str_jsonc.Goals as goal

pub returns-clause-value : goal.returns-clause-value
returns-clause-value g c = c.first_value.ensures.value _ jsonc (rw (← c.as_bytes-text.ensures.value) c.new_jsonc_trusted.ensures)
