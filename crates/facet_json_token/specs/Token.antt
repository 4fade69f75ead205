-- Tokens, faults and the places where they stand (RFC 8259, section 2). Offsets and lengths are in bytes of the buffer.
use Rattle.std.specs.Prelude.{ℕ, List, Bool, codes}
use Rattle.facet_format.specs.Span.{Span}
use Rattle.facet_format.specs.Number.{Hint}

pub data Kind : Type 0 where
  object_start : Kind
  object_end : Kind
  array_start : Kind
  array_end : Kind
  colon : Kind
  comma : Kind
  null : Kind
  true_literal : Kind
  false_literal : Kind
  -- where the content between the quotes starts and ends, and whether a backslash stands in it
  string : (start finish : ℕ) (has_escapes : Bool) → Kind
  -- where the number starts and ends
  number : (start finish : ℕ) → Hint → Kind

pub record Token : Type 0 where
  pub kind : Kind
  pub span : Span

-- what is wrong with the bytes at a place where a token should stand
pub data FaultKind : Type 0 where
  -- this character stands there
  unexpected_char : ℕ → FaultKind
  -- the input ends inside of what the text names
  unexpected_eof : List ℕ → FaultKind

pub record Fault : Type 0 where
  pub kind : FaultKind
  pub span : Span

abbrev pub in_string : List ℕ
in_string = codes "in string"

abbrev pub in_number : List ℕ
in_number = codes "in number"

abbrev pub in_literal : List ℕ
in_literal = codes "in literal"

abbrev pub in_block_comment : List ℕ
in_block_comment = codes "in block comment"
