-- What the types of the code stand for in the definitions. This file and `HeldText` name types of the code.
use Rattle.std.specs.Prelude.{ℕ, List, map, Option, Some, None, Result, Ok, Err}
use Rattle.std.specs.Borrow.{Bor}
use Rattle.std.specs.Option.{option_map}
use Rattle.facet_format.specs.declared.event.Span.{Span as RustSpan}
use Rattle.facet_format.specs.declared.numeral.NumberHint.{NumberHint}
use Rattle.facet_format.specs.declared.numeral.NumberHint.TheVariants as hint
use Rattle.facet_format.specs.declared.error.DeserializeErrorKind.{DeserializeErrorKind}
use Rattle.facet_format.specs.declared.error.DeserializeErrorKind.TheVariants as error
use Rattle.facet_format.specs.declared.error.DeserializeError.{DeserializeError}
use Rattle.facet_format.specs.declared.parse_error.ParseError.{ParseError}
use Rattle.facet_format.specs.declared.event.ContainerKind.{ContainerKind as RustContainerKind}
use Rattle.facet_format.specs.declared.event.ContainerKind.TheVariants as container
use Rattle.facet_format.specs.declared.event.ScalarValue.{ScalarValue}
use Rattle.facet_format.specs.declared.event.ScalarValue.TheVariants as value
use Rattle.facet_format.specs.declared.event.ParseEventKind.{ParseEventKind}
use Rattle.facet_format.specs.declared.event.ParseEventKind.TheVariants as kind
use Rattle.facet_format.specs.declared.event.ParseEvent.{ParseEvent}
use Rattle.facet_format.specs.declared.event.SavePoint.{SavePoint}
use Rattle.facet_format.specs.Number.{Hint, unsigned, signed, float}
use Rattle.facet_format.specs.Span.{Span}
use Rattle.facet_format.specs.Complaint.{Complaint, Refusal}
use Rattle.facet_format.specs.Complaint as complaint
use Rattle.facet_format.specs.Event.{ContainerKind, Scalar, EventKind, Event}
use Rattle.facet_format.specs.Event as event
use Rattle.facet_format.specs.HeldText.{text_of}
use Rattle.facet_format.specs.Cursor.{Answer}
use Rattle.facet_format.specs.Cursor as cursor

abbrev pub span_of : RustSpan → Span
span_of s = record { offset = s.offset; len = s.len }

abbrev pub hint_of : NumberHint → Hint
hint_of hint.Unsigned = unsigned
hint_of hint.Signed = signed
hint_of hint.Float = float

abbrev pub complaint_of : DeserializeErrorKind → Complaint
complaint_of (error.UnexpectedChar ch expected) = complaint.unexpected_char ch expected.now
complaint_of (error.UnexpectedEof expected) = complaint.unexpected_eof expected.now
complaint_of (error.UnexpectedToken got expected) = complaint.unexpected_token got.now expected.now
complaint_of error.InvalidUtf8 = complaint.invalid_utf8
complaint_of (error.InvalidValue message) = complaint.invalid_value message.now
complaint_of (error.TypeMismatch expected got) = complaint.type_mismatch expected.now got.now
complaint_of (error.NumberOutOfRange target_type) = complaint.number_out_of_range target_type.now
complaint_of (error.MissingField field) = complaint.missing_field field.now
complaint_of error.OutOfMemory = complaint.out_of_memory
complaint_of error.SaveLimit = complaint.save_limit

abbrev pub refusal_of : DeserializeError → Refusal
refusal_of e = record { complaint = complaint_of e.kind; span = option_map span_of e.span }

-- an allocation failed, which has no place in the input
abbrev pub memory_refused : DeserializeError
memory_refused = record { kind = error.OutOfMemory; span = None }

abbrev pub parse_refusal : ParseError → Refusal
parse_refusal e = complaint.refusal_at (complaint_of e.kind) (span_of e.span)

-- the same refusal, at the same place
abbrev pub passed_on : ParseError → DeserializeError
passed_on e = record { kind = e.kind; span = Some e.span }

abbrev pub container_of : RustContainerKind → ContainerKind
container_of container.Object = event.object
container_of container.Array = event.array

abbrev pub scalar_value_of : ScalarValue → Scalar
scalar_value_of value.Null = event.null
scalar_value_of value.Unit = event.unit
scalar_value_of (value.Bool b) = event.bool b
scalar_value_of (value.Char c) = event.char c
scalar_value_of (value.I64 n) = event.i64 n
scalar_value_of (value.U64 n) = event.u64 n
scalar_value_of (value.I128 n) = event.i128 n
scalar_value_of (value.U128 n) = event.u128 n
scalar_value_of (value.Decimal d) = event.decimal d
scalar_value_of (value.Str t) = event.text (text_of t)
scalar_value_of (value.Bytes b) = event.bytes b.now

abbrev pub event_kind_of : ParseEventKind → EventKind
event_kind_of (kind.StructStart c) = event.struct_start (container_of c)
event_kind_of kind.StructEnd = event.struct_end
event_kind_of (kind.SequenceStart c) = event.sequence_start (container_of c)
event_kind_of kind.SequenceEnd = event.sequence_end
event_kind_of (kind.FieldKey key) = event.field_key (text_of key.name)
event_kind_of (kind.Scalar v) = event.scalar (scalar_value_of v)

abbrev pub event_of : ParseEvent → Event
event_of e = record { kind = event_kind_of e.kind; span = span_of e.span }

-- ---- the answers of a parser's calls

abbrev pub answer_of_event : Result (Option ParseEvent) ParseError → Answer
answer_of_event (Ok e) = cursor.event (Ok (option_map event_of e))
answer_of_event (Err e) = cursor.event (Err (parse_refusal e))

-- with the events that were given out
abbrev pub answer_of_events : List ParseEvent → Result ℕ ParseError → Answer
answer_of_events given (Ok n) = cursor.batch (map event_of given) (Ok n)
answer_of_events given (Err e) = cursor.batch (map event_of given) (Err (parse_refusal e))

abbrev pub answer_of_skip : Result (Unit {0}) ParseError → Answer
answer_of_skip (Ok nothing) = cursor.skipped (Ok tt)
answer_of_skip (Err e) = cursor.skipped (Err (parse_refusal e))

abbrev pub answer_of_capture : Result (Option (Bor (List ℕ))) ParseError → Answer
answer_of_capture (Ok text) = cursor.raw (Ok (option_map (λ t. t.now) text))
answer_of_capture (Err e) = cursor.raw (Err (parse_refusal e))

abbrev pub answer_of_save : Result SavePoint ParseError → Answer
answer_of_save (Ok point) = cursor.saved (Ok point.0)
answer_of_save (Err e) = cursor.saved (Err (parse_refusal e))

abbrev pub answer_of_span : Option RustSpan → Answer
answer_of_span s = cursor.spans (option_map span_of s)
