-- Bytes that a run of a string's content goes on through: those that may stand there and escape nothing.
use Rattle.std.specs.Prelude.{ℕ, Bool, not, ◌||◌, ◌==◌, nat_lt}
use Rattle.facet_format.specs.Bytes.{backslash}

abbrev pub is_rfc_stop : ℕ → Bool
is_rfc_stop b = nat_lt b 0x20 || (b == backslash)

abbrev pub is_rfc_plain : ℕ → Bool
is_rfc_plain b = not (is_rfc_stop b)
