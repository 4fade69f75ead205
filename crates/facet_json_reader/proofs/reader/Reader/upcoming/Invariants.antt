-- Separators have been passed, and what comes is as it was.
use Rattle.std.proofs.Common.{◌≡◌, ◌≤◌, ◌-◌, length}
use Rattle.facet_json_reader.specs.PlaceViews.{language_of, place_of}
use Rattle.facet_json_grammar.specs.Future.{within}
use Rattle.facet_json_reader.specs.Views.{comes_at, coming}
use Rattle.facet_json_reader.proofs.reader.Reader.upcoming.Given as goal

abbrev pub invariant-loop-token : goal.invariant-loop-token
invariant-loop-token l = record {
  ends : l.position ≤ length l.input;
  same : comes_at l.input (language_of l.language) l.self.contexts (within (place_of l.place)) l.position
      ≡ coming l.input (language_of l.language) l.self;
}

abbrev pub decreases-loop-token : goal.decreases-loop-token
decreases-loop-token l = length l.input - l.position
