use Rattle.facet_json_facet.proofs.reading.from_slice.Goals as goal

pub returns-clause-value : goal.returns-clause-value
returns-clause-value g c = c.first_value.ensures.value _ _ c.new.ensures
