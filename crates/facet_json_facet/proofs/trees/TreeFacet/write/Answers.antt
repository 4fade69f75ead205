use Rattle.std.proofs.lemmas.Result.{on_ok_weaker}
use Rattle.facet_json_facet.proofs.trees.TreeFacet.write.Goals as goal

pub returns-clause-always : goal.returns-clause-always
returns-clause-always c = on_ok_weaker c.write_tree.result (λ is. is.0) c.write_tree.ensures.of_rust
