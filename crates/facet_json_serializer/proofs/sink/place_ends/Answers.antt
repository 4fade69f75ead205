use Rattle.std.proofs.Common.{◌-◌, rules, length}
use Rattle.std.proofs.lemmas.List.{take_rest}
use Rattle.facet_json_serializer.proofs.Places.{Placed-ends}
use Rattle.facet_json_serializer.proofs.sink.place_ends.Goals as goal

pub returns : goal.returns
returns g c =
    let text = c.args.text.now in
    Placed-ends text g.row.N (search rules) c.requires.covers.0 c.requires.covers.1 c.place_first.ensures
    (rw (take_rest text (length text - g.row.N)) at c.place_first-2.ensures)
