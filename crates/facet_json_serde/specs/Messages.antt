-- How errors are displayed.
use Rattle.std.specs.Prelude.{ℕ, List, ◌++◌, Option, Some, None, codes}
use Rattle.std.specs.Fmt.{◌++?◌, decimal}
use Rattle.std.specs.Fmt.InlineText.{inline_text}
use Rattle.facet_format.specs.Line.{line_at, column_at}
use Rattle.facet_format.specs.Span.{Span}
use Rattle.facet_format.specs.Views.{complaint_of}
use Rattle.facet_format.specs.Message.{read_text}
use Rattle.facet_json_serde.specs.declared.fault.Detail.{Detail}
use Rattle.facet_json_serde.specs.declared.error.ErrorKind.{ErrorKind}
use Rattle.facet_json_serde.specs.declared.error.ErrorKind.TheVariants.{Read, TrailingCharacters, MissingField, DuplicateField, UnknownField, UnknownVariant, InvalidLength, InvalidValue, KeyMustBeAString, NotOneValue, Custom}
use Rattle.facet_json_serde.specs.declared.streams.StreamError.{StreamError}
use Rattle.facet_json_serde.specs.declared.streams.StreamError.TheVariants.{Json, Io}

abbrev pub detail_text : Detail → List ℕ
detail_text d = inline_text d.0

-- The message of a kind: the reader's own, or one of this crate's.
abbrev pub kind_message : ErrorKind → Option (List ℕ)
kind_message (Read refused) = read_text (complaint_of refused)
kind_message TrailingCharacters = Some (codes "trailing characters")
kind_message (MissingField name) = Some (codes "missing required field `" ++ (detail_text name ++ codes "`"))
kind_message (DuplicateField name) = Some (codes "duplicate field `" ++ (detail_text name ++ codes "`"))
kind_message (UnknownField name) = Some (codes "unknown field `" ++ (detail_text name ++ codes "`"))
kind_message (UnknownVariant name) = Some (codes "unknown variant `" ++ (detail_text name ++ codes "`"))
kind_message InvalidLength = Some (codes "invalid length")
kind_message (Custom text) = Some (detail_text text)
kind_message InvalidValue = Some (codes "invalid value")
kind_message KeyMustBeAString = Some (codes "key must be a string")
kind_message NotOneValue = Some (codes "not one value")

-- Of a stream's, where it does not hang on what the stream's own error says.
abbrev pub stream_message : StreamError → Option (List ℕ)
stream_message (Json refused) = kind_message refused.kind
stream_message (Io failed) = None

-- The message, and where the place is known its line and column.
abbrev pub placed_text : Option (List ℕ) → List ℕ → Option Span → Option (List ℕ)
placed_text message source None = message
placed_text message source (Some span) =
    message ++? Some (codes " at line " ++ (decimal (line_at source span.offset) ++ (codes ", column " ++ decimal (column_at source span.offset))))
