-- What is shown of a place in a source: its line and column, the text of the line, and carets below what is meant.
use Rattle.std.specs.Prelude.{ℕ, List, [], ◌∷◌, ◌++◌, ◌==◌, Option, Some, None, max, take, drop, replicate, codes, count_by, flat_map, if◌then◌else◌}
use Rattle.std.specs.List.{before_first}
use Rattle.std.specs.Fmt.{◌++?◌, decimal, is_char_start}
use Rattle.facet_format.specs.Span.{Span}
use Rattle.facet_format.specs.Line.{is_feed, begun_line, rest_of_line, line_at, column_at}

-- what keeps the width of a byte's character: a tab of a tab, else a space; nothing of a byte that begins none
abbrev pub blank : ℕ → List ℕ
blank b = if is_char_start b then (if b == 9 then 9 else 32) ∷ [] else []

-- how many characters of the line are meant: at least one, since the end of an input is a place too
abbrev pub marked : List ℕ → Span → ℕ
marked source span = max 1 (count_by is_char_start (before_first is_feed (take span.len (drop span.offset source))))

-- such as `line 1, column 4`, and then the line, and then `   ^`
abbrev pub excerpt_text : List ℕ → Span → List ℕ
excerpt_text source span =
    codes "line " ++ (decimal (line_at source span.offset) ++ (codes ", column " ++ (decimal (column_at source span.offset)
    ++ (codes "\n" ++ ((begun_line source span.offset ++ rest_of_line source span.offset) ++ (codes "\n"
    ++ (flat_map blank (begun_line source span.offset) ++ replicate (marked source span) 94)))))))

-- the message, and then the place, where it is known
abbrev pub report_text : Option (List ℕ) → List ℕ → Option Span → Option (List ℕ)
report_text message source None = message
report_text message source (Some span) = message ++? Some (codes " at ") ++? Some (excerpt_text source span)
