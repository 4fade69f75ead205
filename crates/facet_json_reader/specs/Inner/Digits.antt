-- Bytes as one number.
use Rattle.std.specs.Prelude.{ℕ, ◌+◌, ◌*◌, List, [], ◌∷◌}

-- the number whose bytes these are, the first of them lowest
abbrev pub word : List ℕ → ℕ
word [] = 0
word (b ∷ bytes) = b + 256 * word bytes
