-- What holds of every parser: where it stands and what it keeps lies within the input, an event that is held is the one that comes,
-- and its points have numbers of their own, none above the counter.
use Rattle.std.specs.Prelude.{◌≡◌, ◌≤◌, ℕ, List, [], ◌∷◌, Option, None, IfSome, ⊤}
use Rattle.facet_format.specs.Complaint.{Refusal}
use Rattle.facet_format.specs.Cursor.{greatest}
use Rattle.facet_format.specs.Kept.{found}
use Rattle.facet_json_grammar.specs.Language.{Language}
use Rattle.facet_json_grammar.specs.Within.{ReaderWithin}
use Rattle.facet_json_grammar.specs.UnreadLaws.{RefusalWithin}
use Rattle.facet_json_parser.specs.Lookahead.{Lookahead, reader_before, HoldsWhatComes}

-- The place lies within the buffer, and an event that is held is the one that comes there.
pub record IsSound (buffer : List ℕ) (language : Language) (f : Lookahead) : Type 0 where
  pub within : ReaderWithin buffer (reader_before f)
  pub filled : HoldsWhatComes buffer language f

-- Each point is sound, has a number of its own, and none above the counter.
abbrev pub ArePoints : List ℕ → Language → ℕ → List (ℕ × Lookahead) → Type 0
ArePoints buffer language counter [] = ⊤
ArePoints buffer language counter (point ∷ points) =
    IsSound buffer language point.1 × (point.0 ≤ counter) × (found point.0 points ≡ None) × ArePoints buffer language counter points

-- a parser with these fields
pub record IsReady (buffer : List ℕ) (language : Language) (lookahead : Lookahead) (refusal : Option Refusal) (points : List (ℕ × Lookahead))
    (counter : ℕ) : Type 0 where
  pub stands : IsSound buffer language lookahead
  pub refused : IfSome refusal (RefusalWithin buffer)
  pub keeps : ArePoints buffer language counter points
  pub counter_fits : counter ≤ greatest
