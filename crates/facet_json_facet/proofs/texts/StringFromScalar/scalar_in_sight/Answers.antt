-- The text that stands there is taken.
use Rattle.std.proofs.Common.{Some, sym, ap}
use Rattle.facet_json_core.specs.Meaning.Readings.{text_of_tree}
use Rattle.facet_json_facet.proofs.SeenScalars.{taken-there}
use Rattle.facet_json_facet.proofs.texts.StringFromScalar.scalar_in_sight.Goals as goal

pub returns-in-Ok : goal.returns-in-Ok
returns-in-Ok c = taken-there c.args.input.now c.args.at c.in_ok-text.len text_of_tree _ _ c.in_ok-text.ensures (ap Some (sym c.in-Ok.ensures.ok))
