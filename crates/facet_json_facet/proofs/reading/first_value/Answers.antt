use Rattle.facet_json_facet.proofs.FirstRead.{first-value}
use Rattle.facet_json_facet.proofs.reading.first_value.Goals as goal

pub returns-clause-value : goal.returns-clause-value
returns-clause-value g c input mode is_new =
    let e = c.value_in.ensures in
    first-value _ _ _ _ _ e.keeps input mode is_new c.value_in.result e.read e.unread e.document e.one_value e.within e.tells
