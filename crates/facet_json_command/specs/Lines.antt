-- The lines that `events` and `drive` print.
use Rattle.std.specs.Prelude.{ℕ, List, ◌++◌, Option, Some, None, Result, Ok, Err, codes}
use Rattle.std.specs.List.{flat_map}
use Rattle.std.specs.Char.{encode_utf8}
use Rattle.std.specs.Fmt.{decimal, signed_decimal}
use Rattle.facet_format.specs.Span.{Span}
use Rattle.facet_format.specs.Complaint.{Refusal, code_of}
use Rattle.facet_format.specs.Event as event
use Rattle.facet_format.specs.Event.{Scalar, EventKind, Event, bytes_of}
use Rattle.facet_format.specs.Cursor as answer
use Rattle.facet_format.specs.Cursor.{Answer}
use Rattle.facet_json_grammar.specs.Text.{bool_text}
use Rattle.facet_json_grammar.specs.Quoted.{quoted}

-- a line of a name and of where it stands, as `StructEnd 7+1`
abbrev pub place_line : List ℕ → Span → List ℕ
place_line name span = name ++ codes " " ++ decimal span.offset ++ codes "+" ++ decimal span.len ++ codes "\n"

-- a name and where it stands, before a value
abbrev pub head_text : List ℕ → Span → List ℕ
head_text name span = name ++ codes " " ++ decimal span.offset ++ codes "+" ++ decimal span.len ++ codes " "

-- a line with a value, as `U64 5+1 1`
abbrev pub value_line : List ℕ → Span → List ℕ → List ℕ
value_line name span value = head_text name span ++ value ++ codes "\n"

abbrev pub scalar_line : Scalar → Span → List ℕ
scalar_line event.null span = place_line (codes "Null") span
scalar_line event.unit span = place_line (codes "Unit") span
scalar_line (event.bool b) span = value_line (codes "Bool") span (bool_text b)
scalar_line (event.char c) span = value_line (codes "Char") span (encode_utf8 c)
scalar_line (event.i64 n) span = value_line (codes "I64") span (signed_decimal n)
scalar_line (event.u64 n) span = value_line (codes "U64") span (decimal n)
scalar_line (event.i128 n) span = value_line (codes "I128") span (signed_decimal n)
scalar_line (event.u128 n) span = value_line (codes "U128") span (decimal n)
scalar_line (event.decimal t) span = value_line (codes "Decimal") span (bytes_of t)
scalar_line (event.text t) span = value_line (codes "Str") span (quoted (bytes_of t))
scalar_line (event.bytes b) span = place_line (codes "Bytes") span

abbrev pub kind_line : EventKind → Span → List ℕ
kind_line (event.struct_start kind) span = place_line (codes "StructStart") span
kind_line event.struct_end span = place_line (codes "StructEnd") span
kind_line (event.sequence_start kind) span = place_line (codes "SequenceStart") span
kind_line event.sequence_end span = place_line (codes "SequenceEnd") span
kind_line (event.field_key name) span = value_line (codes "FieldKey") span (quoted (bytes_of name))
kind_line (event.scalar value) span = scalar_line value span

abbrev pub event_line : Event → List ℕ
event_line e = kind_line e.kind e.span

-- a refusal with its code and where it stands, as `error 2 5+0`
abbrev pub error_line : ℕ → Option Span → List ℕ
error_line code None = codes "error " ++ decimal code ++ codes "\n"
error_line code (Some span) = codes "error " ++ place_line (decimal code) span

abbrev pub refusal_line : Refusal → List ℕ
refusal_line r = error_line (code_of r.complaint) r.span

-- the line of the next event, or of the end
abbrev pub next_line : Option Event → List ℕ
next_line None = codes "None\n"
next_line (Some e) = event_line e

-- the line after several events: of their number, or of the refusal
abbrev pub count_line : Result ℕ Refusal → List ℕ
count_line (Ok n) = codes "events " ++ decimal n ++ codes "\n"
count_line (Err r) = refusal_line r

-- the line of a captured text, as `raw "[1]"`
abbrev pub raw_line : Option (List ℕ) → List ℕ
raw_line None = codes "None\n"
raw_line (Some text) = codes "raw " ++ quoted text ++ codes "\n"

-- the lines of an answer; of several events, one of each and then one of their number, or of the refusal after them
abbrev pub answer_lines : Answer → List ℕ
answer_lines (answer.event (Ok e)) = next_line e
answer_lines (answer.event (Err r)) = refusal_line r
answer_lines (answer.batch given count) = flat_map event_line given ++ count_line count
answer_lines (answer.skipped (Ok done)) = codes "ok\n"
answer_lines (answer.skipped (Err r)) = refusal_line r
answer_lines (answer.raw (Ok text)) = raw_line text
answer_lines (answer.raw (Err r)) = refusal_line r
answer_lines (answer.saved (Ok n)) = codes "point " ++ decimal n ++ codes "\n"
answer_lines (answer.saved (Err r)) = refusal_line r
answer_lines answer.restored = codes "ok\n"
answer_lines (answer.spans (Some span)) = place_line (codes "span") span
answer_lines (answer.spans None) = codes "None\n"
