use Rattle.facet_json_facet.proofs.strict.from_str_strict.Goals as goal

pub returns-clause-value : goal.returns-clause-value
returns-clause-value g c = c.whole_value.ensures.value _ (rw (← c.as_bytes-bytes.ensures.value) c.new_strict_trusted.ensures)
