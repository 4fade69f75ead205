use Rattle.facet_json_tree.proofs.ScalarCalls.{scalar-called}
use Rattle.facet_json_facet.proofs.leaves.AnyFacet.write.Goals as goal

pub returns-clause-written : goal.returns-clause-written
returns-clause-written g c = (scalar-called _ _ _ _ c.scalar.result c.to_scalar.ensures.tree c.scalar.ensures.appends).written
