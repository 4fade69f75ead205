-- Lines and columns. A line ends at its line feed, and a byte that begins a character begins a column.
use Rattle.std.specs.Prelude.{ℕ, ◌+◌, Bool, List, ◌==◌, take, drop, count_by}
use Rattle.std.specs.List.{before_first, after_last}
use Rattle.std.specs.Fmt.{is_char_start}

abbrev pub is_feed : ℕ → Bool
is_feed b = b == 10

-- what stands on the line before the place
abbrev pub begun_line : List ℕ → ℕ → List ℕ
begun_line source offset = after_last is_feed (take offset source)

-- what stands on it from the place on, without its line feed
abbrev pub rest_of_line : List ℕ → ℕ → List ℕ
rest_of_line source offset = before_first is_feed (drop offset source)

-- counted from 1, as a person does
abbrev pub line_at : List ℕ → ℕ → ℕ
line_at source offset = count_by is_feed (take offset source) + 1

abbrev pub column_at : List ℕ → ℕ → ℕ
column_at source offset = count_by is_char_start (begun_line source offset) + 1
