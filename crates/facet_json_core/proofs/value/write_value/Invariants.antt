use Rattle.std.proofs.Common.{◌≡◌, false, None, Some}
use Rattle.facet_format.specs.Event.{Passed}
use Rattle.facet_json_grammar.specs.Future.{Future, gives}
use Rattle.facet_json_grammar.specs.Now.{ahead, future_of}
use Rattle.facet_json_serializer.specs.Serializer.{Writing}
use Rattle.facet_json_core.specs.Refusing.{ComesTo}
use Rattle.facet_json_core.specs.Told.{begins}
use Rattle.facet_json_core.proofs.Passing.{Passing}
use Rattle.facet_json_core.proofs.value.write_value.Given as goal

abbrev pub invariant-loop-event : goal.invariant-loop-event
invariant-loop-event l = record {
  same : l.parser.buffer ≡ l.fn.parser.buffer;
  free : l.fn.parser.cursor.refusal ≡ None → l.parser.cursor.refusal ≡ None;
  passing : (w : Writing) → l.fn.serializer ≡ Some w → Passing (future_of l.fn.parser) w l.depth (future_of l.parser) l.serializer;
  came : ComesTo l.fn.parser l.parser;
  first : l.depth ≡ 0 → (l.parser ≡ l.fn.parser) × (l.serializer ≡ l.fn.serializer);
  begun : (p : Passed) (rest : Future) → future_of l.fn.parser ≡ gives p rest → begins p.event.kind ≡ false → l.depth ≡ 0;
}

abbrev pub decreases-loop-event : goal.decreases-loop-event
decreases-loop-event l = ahead l.parser
