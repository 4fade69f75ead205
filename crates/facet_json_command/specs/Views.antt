-- What the types of the code stand for in the definitions.
use Rattle.std.specs.Prelude.{ℕ, Result, Ok, Err}
use Rattle.facet_format.specs.declared.parse_error.ParseError.{ParseError}
use Rattle.facet_format.specs.Complaint.{Refusal}
use Rattle.facet_format.specs.Views.{parse_refusal}
pub use Rattle.facet_json_command.specs.OutcomeViews.{words_of, command_view, operands_of}

-- how many events were given out, or the refusal after them
abbrev pub count_of : Result ℕ ParseError → Result ℕ Refusal
count_of (Ok n) = Ok n
count_of (Err e) = Err (parse_refusal e)
