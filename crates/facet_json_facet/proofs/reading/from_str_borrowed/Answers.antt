use Rattle.facet_json_token.specs.Gap.{plain}
use Rattle.facet_json_facet.proofs.reading.from_str_borrowed.Goals as goal

pub returns : goal.returns
returns g c = c.first_value.ensures.value _ plain (rw (← c.as_bytes.ensures.value) c.new_trusted.ensures)
