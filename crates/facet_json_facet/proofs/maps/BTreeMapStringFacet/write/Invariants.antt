use Rattle.facet_json_facet.proofs.MapCalls.{IsHalfWritten}
use Rattle.facet_json_facet.proofs.maps.BTreeMapStringFacet.write.Given as goal

abbrev pub invariant-loop-key : goal.invariant-loop-key
invariant-loop-key g l = IsHalfWritten g.T.Facet.view g.T.Facet.shape.tree_of g.T.Facet.shape.always l.fn.serializer l.self.entries l.key-iterator l.serializer
