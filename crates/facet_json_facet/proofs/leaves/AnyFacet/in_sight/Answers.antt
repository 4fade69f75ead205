-- What is taken of the scalar is read of it.
use Rattle.std.proofs.lemmas.Option.{IfSome_then}
use Rattle.facet_json_facet.proofs.SeenScalars.{leaf-seen}
use Rattle.facet_json_facet.proofs.leaves.AnyFacet.in_sight.Goals as goal

pub returns-clause-seen : goal.returns-clause-seen
returns-clause-seen g c =
    IfSome_then c.scalar_in_sight.result c.scalar_in_sight.ensures
    (λ r taken. leaf-seen c.args.input.now c.args.at r.1 c.args._borrows g.T.FromScalar.takes (g.T.FromScalar.view r.0) taken)
