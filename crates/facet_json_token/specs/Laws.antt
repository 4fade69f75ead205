-- Laws of gaps, tokens and growing buffers. Each is the contract of a function of the module `laws` of `facet_json_scan`.
use Rattle.std.specs.Prelude.{ℕ, ◌≡◌, ◌≢◌, ◌≤◌, ◌↔◌, List, ◌++◌, length, take, drop}
use Rattle.facet_json_token.specs.Gap.{Mode, Input, IsGap}
use Rattle.facet_json_token.specs.GapLen.{gap_len}
use Rattle.facet_format.specs.Span.{Span}
use Rattle.facet_json_token.specs.Token.{Kind, FaultKind}
use Rattle.facet_json_token.specs.Cut.{nothing_left, fault, token_at, cut_here, past_gap, cut}
use Rattle.facet_json_token.specs.Shape.{IsShape}
use Rattle.facet_json_token.specs.Faults.{IsFault}
use Rattle.facet_json_token.specs.Tokens.{Tokens, AreCuts}
use Rattle.facet_json_token.specs.TokenList.{tokens_from}
use Rattle.facet_json_token.specs.Open.{IsOpen}

-- The gap at the start is a gap, and no longer prefix of the bytes is one.
abbrev pub GapIsLongest : Type 0
GapIsLongest = (mode : Mode) (input : Input) (bytes : List ℕ) →
    let n = gap_len mode input bytes in
    (n ≤ length bytes) × IsGap mode input (take n bytes) (drop n bytes)
    × ((k : ℕ) → k ≤ length bytes → IsGap mode input (take k bytes) (drop k bytes) → k ≤ n)

-- A token is cut exactly where its shape stands.
abbrev pub ShapeIsCut : Type 0
ShapeIsCut = (mode : Mode) (at : ℕ) (bytes rest : List ℕ) (kind : Kind) →
    IsShape at bytes rest kind ↔ (cut_here mode at (bytes ++ rest) ≡ token_at kind at (length bytes))

-- At one place stands the shape of at most one token.
abbrev pub ShapeIsUnique : Type 0
ShapeIsUnique = (at : ℕ) (a b r s : List ℕ) (kind other : Kind) → IsShape at a r kind → IsShape at b s other → a
    ++ r ≡ b ++ s → (a ≡ b) × (kind ≡ other)

-- A fault is cut at a position exactly where its relation holds of what is left after the gap.
abbrev pub FaultIsCut : Type 0
FaultIsCut = (buffer : List ℕ) (position : ℕ) (mode : Mode) (kind : FaultKind) (span : Span) →
    let at = past_gap buffer position mode in
    IsFault at mode (drop at buffer) kind span ↔ (cut buffer position mode ≡ fault (record { kind = kind; span = span }))

-- At one place stands at most one fault, and none where a token's shape stands.
abbrev pub FaultIsUnique : Type 0
FaultIsUnique = (at : ℕ) (mode : Mode) (bytes : List ℕ) (kind : FaultKind) (span : Span) → IsFault at mode bytes kind span →
    ((other : FaultKind) (place : Span) → IsFault at mode bytes other place → (kind ≡ other) × (span ≡ place))
    × ((prefix rest : List ℕ) (token : Kind) → IsShape at prefix rest token → prefix ++ rest ≡ bytes → ⊥)

-- The tokens from a position on are what is cut from there on, each where the one before ends, up to the end or the first fault,
-- and nothing else is.
abbrev pub TokensAreCuts : Type 0
TokensAreCuts = (buffer : List ℕ) (mode : Mode) (position : ℕ) (these : Tokens) →
    AreCuts buffer mode position these ↔ (tokens_from buffer mode position ≡ these)

-- What is cut where the buffer isn't open is cut alike from every longer buffer with that prefix.
abbrev pub CutStays : Type 0
CutStays = (buffer more : List ℕ) (position : ℕ) (mode : Mode) → position ≤ length buffer → (IsOpen buffer position mode → ⊥) → cut buffer position mode ≢ nothing_left →
    cut (buffer ++ more) position mode ≡ cut buffer position mode
