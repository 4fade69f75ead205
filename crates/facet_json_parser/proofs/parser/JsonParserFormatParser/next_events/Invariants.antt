use Rattle.std.proofs.Common.{◌≡◌, ◌<◌, List, ◌++◌, map, length}
use Rattle.facet_format.specs.declared.event.ParseEvent.{ParseEvent}
use Rattle.facet_format.specs.Views.{event_of}
use Rattle.facet_json_grammar.specs.Within.{NowWithin}
use Rattle.facet_json_parser.proofs.EventsInBatch.{GivenSoFar}
use Rattle.facet_json_parser.proofs.parser.JsonParserFormatParser.next_events.Given as goal

abbrev pub invariant-loop-count : goal.invariant-loop-count
invariant-loop-count l = record {
  so_far : (given : List ParseEvent) × (l.buf.items ≡ l.initial.buf.items ++ given) × (length given ≡ l.count)
      × GivenSoFar l.initial.self (map event_of given) l.self;
  known : 0 < l.count → NowWithin l.initial.self;
}
