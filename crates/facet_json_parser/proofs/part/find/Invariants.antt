-- Separators have been passed, and what stands after them stands where the reader does.
use Rattle.std.proofs.Common.{◌≤◌, ◌-◌, length}
use Rattle.facet_json_reader.specs.PlaceViews.{language_of, place_of}
use Rattle.facet_json_parser.proofs.FirstParts.{Reaches}
use Rattle.facet_json_parser.proofs.part.find.Given as goal

abbrev pub invariant-loop-token : goal.invariant-loop-token
invariant-loop-token l = record {
  ends : l.position ≤ length l.input;
  reached : Reaches l.input (language_of l.language) l.reader (place_of l.place) l.position;
}

abbrev pub decreases-loop-token : goal.decreases-loop-token
decreases-loop-token l = length l.input - l.position
