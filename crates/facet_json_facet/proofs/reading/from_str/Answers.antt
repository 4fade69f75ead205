use Rattle.facet_json_token.specs.Gap.{plain}
use Rattle.facet_json_facet.proofs.reading.from_str.Goals as goal

pub returns-clause-value : goal.returns-clause-value
returns-clause-value g c = c.first_value.ensures.value _ plain (rw (← c.as_bytes.ensures.value) c.new_trusted.ensures)
