-- Writes at a place of a buffer that has room.
use Rattle.std.specs.Prelude.{◌≡◌, ℕ, ◌+◌, List, ◌++◌, length, take}

-- new has xs after the first `at` bytes of old, up to `end`
pub record Placed (old new : List ℕ) (at : ℕ) (xs : List ℕ) (end : ℕ) : Type 0 where
  pub bytes : take end new ≡ take at old ++ xs
  pub moved : end ≡ at + length xs
  pub len : length new ≡ length old
