-- How reading is refused: what is wrong, and where.
use Rattle.std.specs.Prelude.{ℕ, List, Option, Some, None}
use Rattle.facet_format.specs.Span.{Span}

-- what is wrong, with the texts that the error holds
pub data Complaint : Type 0 where
  unexpected_char : (character : ℕ) (expected : List ℕ) → Complaint
  unexpected_eof : (expected : List ℕ) → Complaint
  unexpected_token : (got expected : List ℕ) → Complaint
  invalid_utf8 : Complaint
  invalid_value : (message : List ℕ) → Complaint
  type_mismatch : (expected got : List ℕ) → Complaint
  number_out_of_range : (target_type : List ℕ) → Complaint
  missing_field : (field : List ℕ) → Complaint
  out_of_memory : Complaint
  save_limit : Complaint

-- the number that the program prints
abbrev pub code_of : Complaint → ℕ
code_of (unexpected_char character expected) = 1
code_of (unexpected_eof expected) = 2
code_of (unexpected_token got expected) = 3
code_of invalid_utf8 = 4
code_of (invalid_value message) = 5
code_of (type_mismatch expected got) = 6
code_of (number_out_of_range target_type) = 7
code_of (missing_field field) = 8
code_of out_of_memory = 9
code_of save_limit = 10

pub record Refusal : Type 0 where
  pub complaint : Complaint
  pub span : Option Span

abbrev pub refusal_at : Complaint → Span → Refusal
refusal_at complaint span = record { complaint = complaint; span = Some span }

-- an allocation failed, which has no place in the input
abbrev pub no_memory : Refusal
no_memory = record { complaint = out_of_memory; span = None }
