-- Bytes of ASCII, and the others.
use Rattle.std.specs.Prelude.{ℕ, Bool, not, nat_le}

abbrev pub is_high : ℕ → Bool
is_high b = nat_le 0x80 b

abbrev pub is_low : ℕ → Bool
is_low b = not (is_high b)
