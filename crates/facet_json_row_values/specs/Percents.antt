-- Whole numbers from 0 to 100.
use Rattle.std.specs.Prelude.{ℕ, ◌≤◌, cond, nat_le, Option, Some, None}
use Rattle.std.specs.Option.{option_and_then}
use Rattle.facet_json_grammar.specs.Tree.{u64}
use Rattle.facet_json_core.specs.Meaning.Readings.{leaf, unsigned_of}
use Rattle.facet_json_core.specs.Meaning.Shapes.{Reading, Shape, shape}

abbrev pub percent_in : ℕ → Option ℕ
percent_in n = cond (nat_le n 100) (Some n) None

-- what is read of a node
abbrev pub percent_of : Reading ℕ
percent_of buffer node = option_and_then percent_in (leaf (unsigned_of 8) buffer node)

abbrev pub percent : Shape ℕ
percent = shape percent_of percent_of u64 (λ n. Unit {0}) (λ n. n ≤ 100)
