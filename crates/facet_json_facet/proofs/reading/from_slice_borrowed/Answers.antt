use Rattle.facet_json_facet.proofs.reading.from_slice_borrowed.Goals as goal

pub returns : goal.returns
returns g c = c.first_value.ensures.value _ _ c.new.ensures
