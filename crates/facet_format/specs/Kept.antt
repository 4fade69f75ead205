-- Points that were kept, each under its number.
use Rattle.std.specs.Prelude.{ℕ, cond, ◌==◌, List, [], ◌∷◌, ◌++◌, Option, Some, None}

-- what is kept under the number
abbrev pub found : {S : Type 0} → ℕ → List (ℕ × S) → Option S
found number [] = None
found number (point ∷ points) = cond (point.0 == number) (Some point.1) (found number points)

-- the points under other numbers
abbrev pub without : {S : Type 0} → ℕ → List (ℕ × S) → List (ℕ × S)
without number [] = []
without number (point ∷ points) = cond (point.0 == number) (without number points) (point ∷ without number points)

-- one more point
abbrev pub with_point : {S : Type 0} → ℕ → S → List (ℕ × S) → List (ℕ × S)
with_point number state points = points ++ (number, state) ∷ []
