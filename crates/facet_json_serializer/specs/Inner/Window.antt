-- Bytes of a text that may be copied as they stand.
use Rattle.std.specs.Prelude.{◌≡◌, ℕ, ◌<◌, ◌≤◌, Bool, true, not, nat_lt, ◌||◌, ◌==◌, List, get_or}
use Rattle.facet_format.specs.Bytes.{quote, backslash, space, delete}

-- a byte that cannot stand for itself between the quotes
abbrev pub needs_escape : ℕ → Bool
needs_escape b = nat_lt b space || (b == quote) || (b == backslash) || (b == delete)

abbrev pub needs_no_escape : ℕ → Bool
needs_no_escape b = not (needs_escape b)

-- no byte from i up to j needs an escape
abbrev pub PlainBetween : List ℕ → ℕ → ℕ → Type 0
PlainBetween text i j = (k : ℕ) → i ≤ k → k < j → needs_no_escape (get_or text k 0) ≡ true
