-- The list of all tokens of an input, with the end or the fault after the last.
use Rattle.std.specs.Prelude.{◌≡◌, ℕ, List}
use Rattle.facet_json_token.specs.Gap.{Mode}
use Rattle.facet_json_token.specs.Token.{Token, Fault}
use Rattle.facet_format.specs.Span.{stop}
use Rattle.facet_json_token.specs.Cut.{nothing_left, token, fault, cut}

pub data Tokens : Type 0 where
  ended : Tokens
  refused : Fault → Tokens
  next : Token → Tokens → Tokens

-- These are what is cut of the buffer from a position on: each token where the one before ends, up to the end or the first fault.
pub data AreCuts (buffer : List ℕ) (mode : Mode) : ℕ → Tokens → Type 0 where
  ends : (position : ℕ) → cut buffer position mode ≡ nothing_left → AreCuts buffer mode position ended
  breaks_off : (position : ℕ) (f : Fault) → cut buffer position mode ≡ fault f → AreCuts buffer mode position (refused f)
  goes_on : (position : ℕ) (t : Token) (others : Tokens) → cut buffer position mode ≡ token t →
      AreCuts buffer mode (stop t.span) others → AreCuts buffer mode position (next t others)
