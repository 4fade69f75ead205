use Rattle.facet_json_token.specs.Gap.{jsonc}
use Rattle.facet_json_facet.proofs.reading.from_str_borrowed_jsonc.Goals as goal

pub returns : goal.returns
returns g c = c.first_value.ensures.value _ jsonc (rw (← c.as_bytes-text.ensures.value) c.new_jsonc_trusted.ensures)
