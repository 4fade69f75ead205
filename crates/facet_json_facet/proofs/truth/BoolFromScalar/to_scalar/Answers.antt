use Rattle.facet_json_facet.proofs.ScalarsOfRust.{bool-of_rust}
use Rattle.facet_json_facet.proofs.truth.BoolFromScalar.to_scalar.Goals as goal

pub returns-clause-of_rust : goal.returns-clause-of_rust
returns-clause-of_rust c = bool-of_rust c.args.self.now
