-- Bytes that are no backslash, and how a run of them is refused that is not UTF-8.
use Rattle.std.specs.Prelude.{ℕ, ◌≡◌, ◌==◌, Bool, not, List}
use Rattle.facet_format.specs.Bytes.{backslash}
use Rattle.std.specs.Str.{IsValidUpTo}
use Rattle.facet_json_token.specs.declared.fault.Fault.{Fault}
use Rattle.facet_json_token.specs.Views.{told_refusal}
use Rattle.facet_json_token.specs.Fault.{decode_fault_at, no_character, fault_refusal}

abbrev pub is_backslash : ℕ → Bool
is_backslash b = b == backslash

-- a byte other than a backslash
abbrev pub is_no_backslash : ℕ → Bool
is_no_backslash b = not (is_backslash b)

-- Bytes that start there in the buffer are refused for the first one at which they stop being text.
pub record StopsBeingText (run : List ℕ) (start : ℕ) (f : Fault) : Type 0 where
  pub text_len : ℕ
  pub stops : IsValidUpTo run text_len
  pub told : told_refusal f ≡ fault_refusal start (decode_fault_at no_character text_len 1)
