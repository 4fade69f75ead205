use Rattle.std.proofs.Common.{◌<◌, ◌^◌, rules}
use Rattle.facet_json_facet.proofs.ScalarsOfRust.{u128-of_rust}
use Rattle.facet_json_facet.proofs.wide.U128FromScalar.to_scalar.Goals as goal

pub returns-clause-of_rust : goal.returns-clause-of_rust
returns-clause-of_rust c =
    let fits : c.args.self.now < 2 ^ 128 = search rules in
    u128-of_rust c.args.self.now fits
