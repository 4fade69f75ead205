-- What the program says of how a run ended.
use Rattle.std.specs.Prelude.{ℕ, List, [], ◌++◌, Some, None, codes}
use Rattle.std.specs.Fmt.{decimal}
use Rattle.facet_format.specs.declared.event.Span.{Span}
use Rattle.facet_json_command.specs.declared.run.Outcome.{Outcome}
use Rattle.facet_json_command.specs.declared.run.Outcome.TheVariants.{Done, Refused, Io, Usage}

abbrev pub usage : List ℕ
usage =
    codes "usage: facet_json_tool fmt [--pretty] [--jsonc | --strict] | events [--jsonc | --strict] | tokens [--jsonc] | drive [--jsonc | --strict] SCRIPT"

-- a range of bytes: its offset and its length
abbrev pub span_text : Span → List ℕ
span_text span = decimal span.offset ++ codes "+" ++ decimal span.len

-- the line for the standard error, with its line feed
abbrev pub line_of : Outcome → List ℕ
line_of Done = []
line_of (Refused code None) = codes "error: " ++ decimal code ++ codes "\n"
line_of (Refused code (Some span)) = codes "error: " ++ decimal code ++ codes " at " ++ span_text span ++ codes "\n"
line_of Io = codes "error: io\n"
line_of Usage = usage ++ codes "\n"

-- the exit status
abbrev pub status_of : Outcome → ℕ
status_of Done = 0
status_of (Refused code span) = 1
status_of Io = 1
status_of Usage = 2
