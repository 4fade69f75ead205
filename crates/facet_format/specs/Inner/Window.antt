-- Bytes that a run of digits goes on through, and those that end it.
use Rattle.std.specs.Prelude.{ℕ, Bool, not}
use Rattle.facet_format.specs.Bytes.{is_digit}

abbrev pub is_no_digit : ℕ → Bool
is_no_digit b = not (is_digit b)
