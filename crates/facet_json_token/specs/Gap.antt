-- The gap before a token (RFC 8259, section 2): white space and, in JSONC mode, comments.
use Rattle.std.specs.Prelude.{◌≡◌, ℕ, true, false, ◌==◌, ◌&&◌, List, [], ◌∷◌, ◌++◌}
use Rattle.facet_format.specs.Bytes.{is_space, slash, star, line_feed}

-- what may stand between tokens: white space alone, or comments too
pub data Mode : Type 0 where
  plain : Mode
  jsonc : Mode

-- whether the buffer is the whole input, so that its end also ends a line comment, or more may follow it
pub data Input : Type 0 where
  whole : Input
  growing : Input

-- ---- what a gap is

-- The bytes hold no `*/`.
pub data OpensBlock : List ℕ → Type 0 where
  nothing : OpensBlock []
  one : (b : ℕ) → OpensBlock (b ∷ [])
  more : (b c : ℕ) (bytes : List ℕ) → (b == star) && (c == slash) ≡ false → OpensBlock (c ∷ bytes) →
      OpensBlock (b ∷ c ∷ bytes)

-- The bytes end with their first `*/`.
pub data ClosesBlock : List ℕ → Type 0 where
  last : ClosesBlock (star ∷ slash ∷ [])
  more : (b c : ℕ) (bytes : List ℕ) → (b == star) && (c == slash) ≡ false → ClosesBlock (c ∷ bytes) →
      ClosesBlock (b ∷ c ∷ bytes)

-- The bytes hold no line feed.
pub data OpensLine : List ℕ → Type 0 where
  nothing : OpensLine []
  more : (b : ℕ) (bytes : List ℕ) → (b == line_feed) ≡ false → OpensLine bytes → OpensLine (b ∷ bytes)

-- The bytes end with their first line feed.
pub data ClosesLine : List ℕ → Type 0 where
  last : ClosesLine (line_feed ∷ [])
  more : (b : ℕ) (bytes : List ℕ) → (b == line_feed) ≡ false → ClosesLine bytes → ClosesLine (b ∷ bytes)

-- The bytes are one piece of a gap, where rest follows them.
pub data IsPiece : Mode → Input → List ℕ → List ℕ → Type 0 where
  blank : (mode : Mode) (input : Input) (b : ℕ) (rest : List ℕ) → is_space b ≡ true → IsPiece mode input (b ∷ []) rest
  block : (input : Input) (body rest : List ℕ) → ClosesBlock body → IsPiece jsonc input (slash ∷ star ∷ body) rest
  line : (input : Input) (body rest : List ℕ) → ClosesLine body → IsPiece jsonc input (slash ∷ slash ∷ body) rest
  last_line : (body : List ℕ) → OpensLine body → IsPiece jsonc whole (slash ∷ slash ∷ body) []

-- The bytes are a gap, where rest follows them: pieces, one after another.
pub data IsGap (mode : Mode) (input : Input) : List ℕ → List ℕ → Type 0 where
  empty : (rest : List ℕ) → IsGap mode input [] rest
  piece : (first others bytes rest : List ℕ) → IsPiece mode input first (others ++ rest) →
      IsGap mode input others rest → bytes ≡ first ++ others → IsGap mode input bytes rest
