-- How far a container is passed by blocks.
use Rattle.std.specs.Prelude.{◌≤◌, List, ℕ, length}
use Rattle.facet_format.specs.Span.{stop}
use Rattle.facet_format.specs.Views.{span_of}
use Rattle.facet_json_token.specs.Gap.{Mode}
use Rattle.facet_json_parser.specs.declared.marks.Passage.{Passage}
use Rattle.facet_json_parser.specs.Inner.Passing.{IsPassed}

-- Tokens are passed up to one offset, and bytes to another, which stands within a text or not.
abbrev pub IsPassage : List ℕ → Mode → Passage → Type 0
IsPassage buffer mode p = (p.at ≤ length buffer) × (stop (span_of p.passed) ≤ p.at) × IsPassed buffer mode (stop (span_of p.passed)) p.at p.within
