-- Where a string's content stands: between two quotes (RFC 8259, section 7).
use Rattle.std.specs.Prelude.{◌≡◌, ◌+◌, ◌≤◌, ◌<◌, ℕ, List, length, slice_index}
use Rattle.facet_format.specs.Bytes.{quote}

-- Before the content stands a quote, and after it.
pub record IsQuoted (buffer : List ℕ) (start finish : ℕ) : Type 0 where
  pub opening : ℕ
  pub starts : start ≡ opening + 1
  pub ordered : start ≤ finish
  pub within : finish < length buffer
  pub opens : slice_index buffer opening ≡ quote
  pub closes : slice_index buffer finish ≡ quote
