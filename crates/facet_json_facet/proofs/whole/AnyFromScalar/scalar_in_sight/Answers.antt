-- The number that stands there is held.
use Rattle.std.proofs.Common.{◌≡◌, Some, rules}
use Rattle.std.specs.Option.{option_and_then}
use Rattle.facet_json_core.specs.Meaning.Readings.{whole_of}
use Rattle.facet_json_reader.specs.Inner.Whole.{whole_scalar}
use Rattle.facet_json_facet.proofs.SeenScalars.{taken-there, taken-then}
use Rattle.facet_json_facet.proofs.whole.AnyFromScalar.scalar_in_sight.Goals as goal

pub returns : goal.returns
returns g c =
    let holds = g.T.Number.number.holds in
    let number = c.in_ok-whole.whole in
    let held : holds c.wide.result ≡ Some c.in_ok-number.number = search rules in
    taken-there c.args.input.now c.args.at c.in_ok-whole.len (λ t. option_and_then holds (whole_of t)) (whole_scalar number) c.in_ok-number.number c.in_ok-whole.ensures
    (taken-then whole_of holds (whole_scalar number) c.wide.result c.in_ok-number.number c.wide.ensures held)
