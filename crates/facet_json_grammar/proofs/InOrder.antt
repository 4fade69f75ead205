-- The order of an input's tokens.
use Rattle.std.specs.Prelude.{◌<◌, ◌≤◌, ℕ, List, length}
use Rattle.facet_format.specs.Span.{stop}
use Rattle.facet_json_token.specs.Token.{Token, Fault}
use Rattle.facet_json_token.specs.Tokens.{Tokens, ended, refused, next}

-- Each token ends after the one before, the first after this offset, and all with the fault after them lie within the buffer.
pub data InOrder (buffer : List ℕ) : ℕ → Tokens → Type 0 where
  at_the_end : (from : ℕ) → InOrder buffer from ended
  at_a_fault : (from : ℕ) (f : Fault) → stop f.span ≤ length buffer → InOrder buffer from (refused f)
  at_a_token : (from : ℕ) (t : Token) (ts : Tokens) → from < stop t.span → stop t.span ≤ length buffer →
      InOrder buffer (stop t.span) ts → InOrder buffer from (next t ts)
