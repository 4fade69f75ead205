-- The laws of strings' contents. Each is the contract of a function of the module `laws` of `facet_json_scan`.
use Rattle.std.specs.Prelude.{ℕ, ◌≡◌, ◌≤◌, ◌+◌, ◌↔◌, ◌⊎◌, List, length, Some}
use Rattle.facet_json_token.specs.Decode.{Decodes}
use Rattle.facet_json_token.specs.Decoded.{decoded}
use Rattle.facet_json_token.specs.Fault.{DecodeFault, FirstFault}

-- The text that is computed is the one text that the content stands for.
abbrev pub DecodedIsDecodes : Type 0
DecodedIsDecodes = (content text : List ℕ) → (decoded content ≡ Some text) ↔ Decodes content text

-- The content has a text or a first fault, not both, and one first fault at most, whose bytes are some of the content's.
pub record HasTextOrFault (content : List ℕ) : Type 0 where
  pub one_of_them : ((text : List ℕ) × Decodes content text) ⊎ ((f : DecodeFault) × FirstFault content f)
  pub not_both : (text : List ℕ) (f : DecodeFault) → Decodes content text → FirstFault content f → ⊥
  pub one_fault : (f g : DecodeFault) → FirstFault content f → FirstFault content g → f ≡ g
  pub within : (f : DecodeFault) → FirstFault content f → f.bytes.offset + f.bytes.len ≤ length content

abbrev pub TextOrFault : Type 0
TextOrFault = (content : List ℕ) → HasTextOrFault content
