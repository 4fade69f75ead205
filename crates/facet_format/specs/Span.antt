-- Ranges of bytes of an input.
use Rattle.std.specs.Prelude.{ℕ, ◌+◌}

-- a range of bytes
pub record Span : Type 0 where
  pub offset : ℕ
  pub len : ℕ

-- the offset after it
abbrev pub stop : Span → ℕ
stop s = s.offset + s.len

abbrev pub span_at : ℕ → ℕ → Span
span_at offset len = record { offset = offset; len = len }
