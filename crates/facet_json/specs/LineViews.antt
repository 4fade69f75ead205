-- What the call for the next line answers. The one file of these definitions that names types of the code.
use Rattle.std.specs.Prelude.{◌≡◌, ℕ, List, codes, Option, Some, None, Result, Ok, Err}
use Rattle.facet_json.specs.Lines.{Lines, PassesBlank, GivesLine, HasNoLine, RefusesLine}
use Rattle.facet_json.specs.declared.lines.Line.{Line}
use Rattle.facet_json.specs.declared.lines.LineError.{LineError}
use Rattle.facet_json.specs.declared.lines.LineError.TheVariants.{TooLong, Memory, Io}

-- How it is displayed, where that does not hang on a number or on what the reader's error says.
abbrev pub line_message : LineError → Option (List ℕ)
line_message (TooLong number) = None
line_message Memory = Some (codes "out of memory")
line_message (Io error) = None

-- A line was refused, and passed, or a failure came before the next line that is not blank was passed.
abbrev pub TellsLine : Lines → Lines → LineError → Type 0
TellsLine old new (TooLong number) = RefusesLine old new × (number ≡ new.number)
TellsLine old new Memory = PassesBlank old new
TellsLine old new (Io error) = PassesBlank old new

-- An allocation or a read failed.
abbrev pub IsReadFailure : LineError → Type 0
IsReadFailure (TooLong number) = ⊥
IsReadFailure Memory = Unit {0}
IsReadFailure (Io error) = Unit {0}

-- What the call for the next line answers: the line, where one is left that is not blank; else nothing, or a refusal.
abbrev pub IsNext : Lines → Lines → Result (Option Line) LineError → Type 0
IsNext old new (Ok (Some line)) = GivesLine old new line.text.now × (line.number ≡ new.number)
IsNext old new (Ok None) = HasNoLine old new
IsNext old new (Err error) = TellsLine old new error
