-- So many items were read, and the parser could stand behind them.
use Rattle.std.proofs.Common.{◌≡◌, ◌≤◌, ◌-◌, ◌∷◌, false, cond, List, length, map}
use Rattle.std.specs.List.{All}
use Rattle.facet_format.specs.Event.{ContainerKind, array}
use Rattle.facet_format.specs.Span.{stop}
use Rattle.facet_format.specs.Views.{span_of}
use Rattle.facet_json_facet.proofs.ItemsInSight.{ItemsFar}
use Rattle.facet_json_facet.proofs.lists.items_in_sight.Given as goal

abbrev pub invariant-loop-input : goal.invariant-loop-input
invariant-loop-input g l = record {
  far : (others : List ContainerKind) → l.fn.parser.cursor.spot.place.stack ≡ array ∷ others →
      ItemsFar (cond l.fn.borrows g.T.Facet.shape.reading_borrowed g.T.Facet.shape.reading) l.fn.parser (map g.T.Facet.view l.fn.items.items) l.at
      (map g.T.Facet.view l.items.items);
  within : stop (span_of l.at.last) ≤ length l.fn.parser.buffer;
  owned : l.fn.borrows ≡ false → All g.T.Facet.owned l.fn.items.items → All g.T.Facet.owned l.items.items;
}

abbrev pub decreases-loop-input : goal.decreases-loop-input
decreases-loop-input g l = length l.input - l.at.at
