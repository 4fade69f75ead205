use Rattle.std.proofs.Common.{arith, length, drop, ◌-◌}
use Rattle.std.proofs.lemmas.List.{length-drop, take_all}
use Rattle.facet_json.proofs.documents.Documents.rest.Goals as goal

pub returns : goal.returns
returns g c =
    let input = c.self.inside.input.now in
    let at = c.self.inside.at in
    rw (← c.self.view_is) (take_all (length input - at) (drop at input) (omega (arith, length-drop at input)))
