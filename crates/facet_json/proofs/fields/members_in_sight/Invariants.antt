-- So many members were read, and the parser could stand behind them.
use Rattle.std.proofs.Common.{◌≡◌, ◌≤◌, ◌-◌, ◌∷◌, false, List, length}
use Rattle.facet_format.specs.Event.{ContainerKind, object}
use Rattle.facet_format.specs.Span.{stop}
use Rattle.facet_format.specs.Views.{span_of}
use Rattle.facet_json.specs.Fields.{keys}
use Rattle.facet_json.proofs.MembersInSight.{MembersFar}
use Rattle.facet_json.proofs.fields.members_in_sight.Given as goal

abbrev pub invariant-loop-key : goal.invariant-loop-key
invariant-loop-key g l = record {
  same : l.parser ≡ l.fn.parser;
  far : (others : List ContainerKind) → l.fn.parser.cursor.spot.place.stack ≡ object ∷ others →
      MembersFar (g.F.Fields.step l.fn.borrows (keys l.fn.names)) l.fn.parser (g.F.Fields.seen l.fn.slots) l.at (g.F.Fields.seen l.slots);
  within : stop (span_of l.at.last) ≤ length l.fn.parser.buffer;
  owned : l.fn.borrows ≡ false → g.F.Fields.owned_slots l.fn.slots → g.F.Fields.owned_slots l.slots;
}

abbrev pub decreases-loop-key : goal.decreases-loop-key
decreases-loop-key g l = length l.input - l.at.at
