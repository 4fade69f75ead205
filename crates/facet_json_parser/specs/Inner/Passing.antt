-- Where passing a container byte by byte stands.
use Rattle.std.specs.Prelude.{◌≡◌, ◌≤◌, ◌<◌, ℕ, zero, suc, ◌+◌, ◌-◌, Bool, true, false, List, length, drop, Option, Some, slice_get}
use Rattle.facet_format.specs.Bytes.{quote, is_digit}
use Rattle.facet_json_token.specs.Cut.{content_len}
use Rattle.facet_json_token.specs.Gap.{Mode}
use Rattle.facet_json_token.specs.GapLen.{one_more}
use Rattle.facet_json_parser.specs.Inner.Quiet.{RunLeadsOn}

-- so many more than a length
abbrev pub farther : ℕ → Option ℕ → Option ℕ
farther zero n = n
farther (suc k) n = farther k (one_more n)

-- Quiet tokens stand from one offset up to another; or up to the digit before it, where a number may go on.
pub data Outside (buffer : List ℕ) (mode : Mode) (settled at : ℕ) : Type 0 where
  between : RunLeadsOn buffer mode settled at → (settled < at → (b : ℕ) → slice_get buffer (at - 1) ≡ Some b → is_digit b ≡ false) →
      Outside buffer mode settled at
  in_digits : (last b : ℕ) → at ≡ last + 1 → RunLeadsOn buffer mode settled last → slice_get buffer last ≡ Some b → is_digit b ≡ true →
      Outside buffer mode settled at

-- Quiet tokens stand up to a quote, and the text's end is the same seen from behind the quote as from the other offset.
pub record InText (buffer : List ℕ) (mode : Mode) (settled at : ℕ) : Type 0 where
  pub start : ℕ
  pub passed : ℕ
  pub behind : at ≡ start + 1 + passed
  pub ends : at ≤ length buffer
  pub on : RunLeadsOn buffer mode settled start
  pub opens : slice_get buffer start ≡ Some quote
  pub content : content_len false (drop (start + 1) buffer) ≡ farther passed (content_len false (drop at buffer))

-- Bytes are passed from one offset, where a token may begin, to another, which stands within a text or not.
abbrev pub IsPassed : List ℕ → Mode → ℕ → ℕ → Bool → Type 0
IsPassed buffer mode settled at true = InText buffer mode settled at
IsPassed buffer mode settled at false = Outside buffer mode settled at
