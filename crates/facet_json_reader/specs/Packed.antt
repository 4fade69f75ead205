-- The kinds of open containers as bits of words.
use Rattle.std.specs.Prelude.{◌≡◌, ℕ, zero, suc, ◌+◌, ◌-◌, ◌/◌, ◌%◌, ◌^◌, ◌<◌, List, [], ◌∷◌, length, cond, eqb}
use Rattle.facet_format.specs.Event.{ContainerKind, object, array}

-- the kind that the lowest bit of a word stands for: an object is 1, an array 0
abbrev pub kind_in : ℕ → ContainerKind
kind_in word = cond (eqb (word % 2) 1) object array

-- The kinds of so many containers, the innermost first, by the bits of these words, the innermost word first. Each word but the
-- first has 64 bits, and the first those that are left.
abbrev pub kinds_in : ℕ → List ℕ → List ContainerKind
kinds_in zero words = []
kinds_in (suc n) [] = []
kinds_in (suc n) (word ∷ words) = kind_in word ∷ kinds_in n (cond (eqb (n % 64) 0) words (word / 2 ∷ words))

-- The words of so many containers: the innermost one, and the others. Where no container is open, the innermost one counts for none.
pub record IsPacked (depth innermost : ℕ) (others : List ℕ) : Type 0 where
  -- There are (depth + 63) / 64 of them.
  pub words : length others ≡ (depth + 63) / 64 - 1
  -- The innermost one has no bit but those of its containers.
  pub low : innermost < 2 ^ ((depth + 63) % 64 + 1)
