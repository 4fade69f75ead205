use Rattle.std.proofs.Common.{◌≡◌, false, cond, map}
use Rattle.std.specs.List.{All}
use Rattle.facet_json_grammar.specs.Now.{ahead}
use Rattle.facet_json_facet.proofs.ItemsInSight.{IsListUnderWay}
use Rattle.facet_json_facet.proofs.lists.list_in.Given as goal

abbrev pub invariant-loop-items : goal.invariant-loop-items
invariant-loop-items g l = record {
  way : IsListUnderWay (cond l.fn.borrows g.T.Facet.shape.reading_borrowed g.T.Facet.shape.reading) l.fn.parser (map g.T.Facet.view l.items.items) l.parser;
  owned : l.fn.borrows ≡ false → All g.T.Facet.owned l.items.items;
}

abbrev pub decreases-loop-items : goal.decreases-loop-items
decreases-loop-items g l = ahead l.parser
