-- What stands there is taken.
use Rattle.facet_json_facet.proofs.SeenScalars.{truth-there}
use Rattle.facet_json_facet.proofs.truth.BoolFromScalar.scalar_in_sight.Goals as goal

pub returns : goal.returns
returns c = truth-there c.args.input.now c.args.at c.bool_at.result c.bool_at.ensures
