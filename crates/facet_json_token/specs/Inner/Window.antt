-- Bytes that a run goes on through: those of a string's content that neither end it nor escape the next one, white space, and those of a
-- comment that cannot end it.
use Rattle.std.specs.Prelude.{ℕ, Bool, not, ◌||◌, ◌==◌}
use Rattle.facet_format.specs.Bytes.{quote, backslash, star, line_feed, is_space}

abbrev pub is_stop : ℕ → Bool
is_stop b = (b == quote) || (b == backslash)

abbrev pub is_plain : ℕ → Bool
is_plain b = not (is_stop b)

abbrev pub is_no_space : ℕ → Bool
is_no_space b = not (is_space b)

abbrev pub is_blank : ℕ → Bool
is_blank b = not (is_no_space b)

abbrev pub is_line_feed : ℕ → Bool
is_line_feed b = b == line_feed

abbrev pub is_star : ℕ → Bool
is_star b = b == star
