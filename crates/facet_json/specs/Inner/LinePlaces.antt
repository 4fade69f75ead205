-- Where reading stands among the lines, and what is left from there.
use Rattle.std.specs.Prelude.{◌≢◌, ◌≤◌, ℕ, List, ◌++◌, Option, length, All}
use Rattle.std.specs.Option.{option_map}
use Rattle.std.specs.Io.BufRead.{drop_through}
use Rattle.facet_json.specs.Lines.{lines}
use Rattle.facet_json.specs.declared.lines.LinePlace.{LinePlace}
use Rattle.facet_json.specs.declared.lines.LinePlace.TheVariants.{Between, Within, Past}

-- The lines that are left, where the bytes that the reader has left are known.
abbrev pub left_at : LinePlace → List ℕ → Option (List ℕ) → Option (List (List ℕ))
left_at Between text known = option_map lines known
left_at Within text known = option_map (λ xs. lines (text ++ xs)) known
left_at Past text known = option_map (λ xs. lines (drop_through 10 xs)) known

-- The text is the beginning of a line that is not too long so far.
abbrev pub IsAt : LinePlace → List ℕ → ℕ → Type 0
IsAt Between text limit = Unit {0}
IsAt Within text limit = All (λ x. x ≢ 10) text × (length text ≤ limit)
IsAt Past text limit = Unit {0}
