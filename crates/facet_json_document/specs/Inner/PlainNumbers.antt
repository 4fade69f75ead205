-- Numbers that are written as they stand.
use Rattle.std.specs.Prelude.{◌≡◌, ◌≤◌, ℕ, List, Some, slice_get}
use Rattle.facet_format.specs.Bytes.{dot, minus}
use Rattle.facet_json_grammar.specs.Text.{Options, text}
use Rattle.facet_json_document.specs.Nodes.{Node, leaf}

-- Where the bytes are a whole number, its first digit is no zero.
pub data BeginsPlain (bytes : List ℕ) : Type 0 where
  by_digit : (b : ℕ) → slice_get bytes 0 ≡ Some b → 0x31 ≤ b → BeginsPlain bytes
  by_minus : (b : ℕ) → slice_get bytes 0 ≡ Some minus → slice_get bytes 1 ≡ Some b → 0x31 ≤ b → BeginsPlain bytes
  by_point : slice_get bytes 0 ≡ Some 0x30 → slice_get bytes 1 ≡ Some dot → BeginsPlain bytes

-- The node's value holds no others, and these bytes are its text in every layout.
abbrev pub IsWrittenSo : List ℕ → Node → Type 0
IsWrittenSo bytes (leaf own t) = (o : Options) (depth : ℕ) → bytes ≡ text o depth t
IsWrittenSo bytes _ = ⊥
