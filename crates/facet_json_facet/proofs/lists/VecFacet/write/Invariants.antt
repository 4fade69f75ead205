use Rattle.facet_json_facet.proofs.ListCalls.{ItemsLeft}
use Rattle.facet_json_facet.proofs.lists.VecFacet.write.Given as goal

abbrev pub invariant-loop-item : goal.invariant-loop-item
invariant-loop-item g l = ItemsLeft g.T.Facet.view g.T.Facet.shape.tree_of g.T.Facet.shape.always l.fn.serializer l.item-items l.item-index l.serializer
