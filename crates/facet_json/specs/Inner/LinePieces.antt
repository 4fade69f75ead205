-- What reading a line piece by piece does to its text and to the bytes that the reader has left.
use Rattle.std.specs.Prelude.{◌≡◌, ◌≢◌, ◌+◌, ◌<◌, ℕ, List, [], ◌∷◌, ◌++◌, Option, length, All, IfSome, IsSomeAnd}
use Rattle.std.specs.Io.KnownBytes.{Consumes, IsAtEnd}
use Rattle.std.specs.Io.BufRead.{drop_through}
use Rattle.facet_json.specs.declared.line_pieces.Stop.{Stop}
use Rattle.facet_json.specs.declared.line_pieces.Stop.TheVariants.{LineFeed, End, TooLong}

-- The text grew by bytes that are no line feeds. The reader gave these, and behind them those of `more`.
abbrev pub LineGrows : List ℕ → Option (List ℕ) → Option (List ℕ) → List ℕ → List ℕ → Type 0
LineGrows more old new before after = (part : List ℕ) × (after ≡ before ++ part) × All (λ x. x ≢ 10) part × Consumes old new (part ++ more)

-- The text goes on, without a line feed, past the limit: where the bytes are known, what is left begins so.
abbrev pub GoesPast : ℕ → Option (List ℕ) → Option (List ℕ) → List ℕ → Type 0
GoesPast limit old new text = (part : List ℕ) × (limit < length text + length part) × All (λ x. x ≢ 10) part
    × IfSome old (λ _. IsSomeAnd new (λ xs. (rest : List ℕ) × (xs ≡ part ++ rest)))

-- Where a text stopped, and what is left behind it.
abbrev pub LineStops : ℕ → Option (List ℕ) → Option (List ℕ) → List ℕ → List ℕ → Stop → Type 0
LineStops limit old new before after LineFeed = LineGrows (10 ∷ []) old new before after
LineStops limit old new before after End = LineGrows [] old new before after × IfSome old (λ _. IsAtEnd new)
LineStops limit old new before after TooLong = LineGrows [] old new before after × GoesPast limit old new after

-- What comes after the line's end is the same as before.
abbrev pub KeepsNext : Option (List ℕ) → Option (List ℕ) → Type 0
KeepsNext old new = IfSome old (λ xs. IsSomeAnd new (λ ys. drop_through 10 ys ≡ drop_through 10 xs))

-- What comes after the line's end is left.
abbrev pub LeavesNext : Option (List ℕ) → Option (List ℕ) → Type 0
LeavesNext old new = IfSome old (λ xs. IsSomeAnd new (λ ys. ys ≡ drop_through 10 xs))
