-- How an input is refused: by what stands after the longest prefix of it that begins a document (RFC 8259, sections 2 to 7).
use Rattle.std.specs.Prelude.{ℕ, List}
use Rattle.facet_format.specs.Complaint.{Refusal}
use Rattle.facet_format.specs.Event.{Passed}
use Rattle.facet_json_token.specs.Gap.{Mode}
use Rattle.facet_json_grammar.specs.Begun.{RefusesAfter}
pub use Rattle.facet_json_grammar.specs.Refusal.{is_number_kind, needs_meaning, IsStuck, at_end, at_fault, meaningless, misplaced, number_complaint, Complains, of_number, of_plain_string, of_escaped_string}

-- The input is refused so in the mode.
pub record Refuses (buffer : List ℕ) (mode : Mode) (refusal : Refusal) : Type 0 where
  pub events : List Passed
  pub after : RefusesAfter buffer mode events refusal
