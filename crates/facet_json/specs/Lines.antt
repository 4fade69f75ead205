-- The lines of a reader's bytes, and what a call that asks for the next one gives.
use Rattle.std.specs.Prelude.{◌≡◌, ◌≢◌, ◌+◌, ◌<◌, ◌≤◌, ◌==◌, if◌then◌else◌, ℕ, List, [], ◌∷◌, ◌++◌, Option, length, All, IfSome, IsSomeAnd}
use Rattle.facet_json_token.specs.Gap.{plain}
use Rattle.facet_json_token.specs.Cut.{past_gap}

-- A byte before the first of these lines.
abbrev pub begin : ℕ → List (List ℕ) → List (List ℕ)
begin x [] = (x ∷ []) ∷ []
begin x (l ∷ ls) = (x ∷ l) ∷ ls

-- The lines of bytes: each ends before a line feed (10), and the last one at the end of the bytes, where there is a byte in it.
abbrev pub lines : List ℕ → List (List ℕ)
lines [] = []
lines (x ∷ xs) = if x == 10 then [] ∷ lines xs else begin x (lines xs)

-- It is white space alone (RFC 8259, section 2), or nothing.
abbrev pub IsBlank : List ℕ → Type 0
IsBlank line = past_gap line 0 plain ≡ length line

-- A reader of lines: the lines that it has still to give, where the bytes that its reader has left are known; the last line that it
-- gave; the number, from 1, of the last one that it passed; and the most bytes of a line.
pub record Lines : Type 0 where
  pub left : Option (List (List ℕ))
  pub line : List ℕ
  pub number : ℕ
  pub limit : ℕ

-- These lines came first of what was left, where that is known.
abbrev pub ComeFirst : Option (List (List ℕ)) → Option (List (List ℕ)) → List (List ℕ) → Type 0
ComeFirst old new passed = IfSome old (λ ls. IsSomeAnd new (λ rest. ls ≡ passed ++ rest))

-- These lines were passed, and are counted.
pub record PassesLines (old new : Lines) (passed : List (List ℕ)) : Type 0 where
  pub first : ComeFirst old.left new.left passed
  pub counted : new.number ≡ old.number + length passed
  pub limit : new.limit ≡ old.limit

-- Blank lines alone were passed.
pub record PassesBlank (old new : Lines) : Type 0 where
  pub blank : List (List ℕ)
  pub all_blank : All IsBlank blank
  pub passed : PassesLines old new blank

-- Blank lines alone were passed, and then this one.
pub record PassesTo (old new : Lines) (line : List ℕ) : Type 0 where
  pub blank : List (List ℕ)
  pub all_blank : All IsBlank blank
  pub passed : PassesLines old new (blank ++ line ∷ [])

-- A line was given: one that is not blank, nor longer than the limit.
pub record GivesLine (old new : Lines) (line : List ℕ) : Type 0 where
  pub passed : PassesTo old new line
  pub filled : IsBlank line → ⊥
  pub within : length line ≤ new.limit
  pub one : All (λ x. x ≢ 10) line

-- A line was refused: one that is longer than the limit.
pub record RefusesLine (old new : Lines) : Type 0 where
  pub line : List ℕ
  pub passed : PassesTo old new line
  pub longer : new.limit < length line

-- No line was left but blank ones.
pub record HasNoLine (old new : Lines) : Type 0 where
  pub blank : List (List ℕ)
  pub all_blank : All IsBlank blank
  pub passed : PassesLines old new blank
  pub all : IfSome old.left (λ ls. ls ≡ blank)
