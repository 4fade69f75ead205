use Rattle.std.proofs.Common.{◌≡◌, false, cond}
use Rattle.std.specs.List.{All}
use Rattle.facet_json_grammar.specs.Now.{ahead}
use Rattle.facet_json_core.proofs.Meaning.Objects.MapEntries.{IsUnderWay}
use Rattle.facet_json_facet.proofs.maps.map_in.Given as goal

abbrev pub invariant-loop-map : goal.invariant-loop-map
invariant-loop-map g l = record {
  way : IsUnderWay (cond l.fn.borrows g.T.Facet.shape.reading_borrowed g.T.Facet.shape.reading) g.T.Facet.view l.fn.parser l.map.entries l.parser;
  owned : l.fn.borrows ≡ false → All (λ e. g.T.Facet.owned e.1) l.map.entries;
}

abbrev pub decreases-loop-map : goal.decreases-loop-map
decreases-loop-map g l = ahead l.parser
