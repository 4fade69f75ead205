use Rattle.std.proofs.Common.{ap}
use Rattle.std.specs.Option.{option_map}
use Rattle.facet_json_core.specs.Meaning.Optional.{optional_tree}
use Rattle.facet_json_tree.proofs.ScalarCalls.{scalar-called}
use Rattle.facet_json_facet.proofs.ScalarsOfRust.{on-ok, null-of_rust}
use Rattle.facet_json_facet.proofs.options.OptionFacet.write.Goals as goal

pub returns-in-None-clause-written : goal.returns-in-None-clause-written
returns-in-None-clause-written g c =
    (scalar-called _ _ _ _ c.scalar.result
    (ap (λ o. optional_tree g.T.Facet.shape.tree_of (option_map g.T.Facet.view o)) c.in-None.is)
    c.scalar.ensures.appends).written

pub returns-in-None-clause-of_rust : goal.returns-in-None-clause-of_rust
returns-in-None-clause-of_rust g c = rw c.in-None.is (on-ok _ c.scalar.result null-of_rust)

pub returns-in-None-clause-always : goal.returns-in-None-clause-always
returns-in-None-clause-always g c =
    rw c.in-None.is (on-ok (Unit {0}) c.scalar.result tt)
