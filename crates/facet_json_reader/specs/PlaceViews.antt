-- What the types of the code stand for in the definitions. The one file of the definitions that names types of the code.
use Rattle.std.specs.Prelude.{◌≡◌, ◌≤◌, ◌+◌, length, Result, Ok, Err, ℕ, Bool, true, false, List, [], ◌∷◌, Option, Some, None, codes}
use Rattle.facet_format.specs.declared.event.ContainerKind.{ContainerKind as RustContainerKind}
use Rattle.facet_format.specs.declared.event.ContainerKind.TheVariants as containers
use Rattle.facet_json_token.specs.declared.token.Token.{Token as RustToken}
use Rattle.facet_json_token.specs.declared.token.Token.TheVariants as code
use Rattle.facet_json_reader.specs.declared.refusal.Expected.{Expected}
use Rattle.facet_json_reader.specs.declared.refusal.Expected.TheVariants as expected
use Rattle.facet_json_reader.specs.declared.refusal.Name.{Name}
use Rattle.facet_json_reader.specs.declared.refusal.Name.TheVariants as names
use Rattle.facet_json_reader.specs.declared.refusal.NoRaw.{NoRaw}
use Rattle.facet_json_reader.specs.declared.refusal.NoRaw.TheVariants as no_raws
use Rattle.facet_json_reader.specs.declared.refusal.Why.{Why}
use Rattle.facet_json_reader.specs.declared.refusal.Why.TheVariants as why
use Rattle.facet_json_reader.specs.declared.refusal.Refused.{Refused}
pub use Rattle.facet_json_reader.specs.LanguageViews.{language_of, least_of}
use Rattle.facet_json_reader.specs.declared.place.Place.{Place as RustPlace}
use Rattle.facet_json_reader.specs.declared.place.Place.TheVariants as places
use Rattle.facet_json_reader.specs.declared.place.Turn.{Turn as RustTurn}
use Rattle.facet_json_reader.specs.declared.place.Turn.TheVariants as turns
use Rattle.facet_format.specs.Bytes.{left_brace, left_bracket, right_brace, right_bracket}
use Rattle.facet_format.specs.Complaint.{Complaint, Refusal}
use Rattle.facet_format.specs.Complaint as complaint
use Rattle.facet_format.specs.Event.{ContainerKind, object, array, EventKind}
use Rattle.facet_format.specs.Event as event
use Rattle.facet_format.specs.Views.{span_of, container_of}
use Rattle.facet_format.specs.declared.event.Span.{Span as RustSpan}
use Rattle.facet_json_token.specs.declared.fault.Fault.{Fault as RustFault}
use Rattle.facet_json_token.specs.Cut.{fault}
use Rattle.facet_json_token.specs.Strict.{strict_fault}
use Rattle.facet_json_token.specs.Token.{Token, Fault, Kind}
use Rattle.facet_json_token.specs.Token as token
use Rattle.facet_json_token.specs.Views.{inside_text, told_cut}
use Rattle.facet_json_grammar.specs.Place.{Place, Turn, stops, passes, says, says_scalar, place_turn}
use Rattle.facet_json_grammar.specs.Place as place

-- ---- refusals

-- what a refusal says that it expects
abbrev pub expected_text : Expected → List ℕ
expected_text expected.Value = codes "value"
expected_text expected.FieldNameOrEnd = codes "field name or '}'"
expected_text expected.Colon = codes "':'"
expected_text expected.CommaOrObjectEnd = codes "',' or '}'"
expected_text expected.ValueOrArrayEnd = codes "value or ']'"
expected_text expected.CommaOrArrayEnd = codes "',' or ']'"
expected_text expected.ObjectEnd = codes "'}'"
expected_text expected.ArrayEnd = codes "']'"
expected_text expected.FieldName = codes "field name"
expected_text expected.EndOfInput = codes "end of input"

-- how a refusal calls a token
abbrev pub name_text : Name → List ℕ
name_text names.ObjectStart = codes "ObjectStart"
name_text names.ObjectEnd = codes "ObjectEnd"
name_text names.ArrayStart = codes "ArrayStart"
name_text names.ArrayEnd = codes "ArrayEnd"
name_text names.Colon = codes "Colon"
name_text names.Comma = codes "Comma"
name_text names.Null = codes "Null"
name_text names.True = codes "True"
name_text names.False = codes "False"
name_text names.String = codes "String"
name_text names.U64 = codes "U64"
name_text names.I64 = codes "I64"
name_text names.U128 = codes "U128"
name_text names.I128 = codes "I128"
name_text names.Decimal = codes "Decimal"
name_text names.Number = codes "Number"
name_text names.Eof = codes "Eof"
name_text names.ClosingBrace = codes "'}'"
name_text names.ClosingBracket = codes "']'"

-- why there is no raw text
abbrev pub no_raw_text : NoRaw → List ℕ
no_raw_text no_raws.Key = codes "unexpected field key in capture_raw"
no_raw_text no_raws.End = codes "unexpected end event in capture_raw"
no_raw_text no_raws.Text = codes "invalid UTF-8 in raw JSON"

abbrev pub why_of : Why → Complaint
why_of (why.Char c) = complaint.unexpected_char c (codes "valid JSON token")
why_of (why.Inside inside) = complaint.unexpected_eof (inside_text inside)
why_of (why.End e) = complaint.unexpected_eof (expected_text e)
why_of (why.Token got e) = complaint.unexpected_token (name_text got) (expected_text e)
why_of why.InvalidUtf8 = complaint.invalid_utf8
why_of (why.NoRaw n) = complaint.invalid_value (no_raw_text n)
why_of why.OutOfMemory = complaint.out_of_memory
why_of why.SaveLimit = complaint.save_limit

abbrev pub refused_of : Refused → Refusal
refused_of r = complaint.refusal_at (why_of r.why) (span_of r.span)

-- ---- places

abbrev pub place_of : RustPlace → Place
place_of places.Root = place.root
place_of places.BeforeKey = place.before_key
place_of places.AfterColon = place.after_colon
place_of places.AfterMember = place.after_member
place_of places.BeforeItem = place.before_item
place_of places.AfterItem = place.after_item
place_of places.NextKey = place.next_key
place_of places.NextItem = place.next_item
place_of places.AfterRoot = place.after_root

-- the event of a bracket that opens a container
abbrev pub opening_event : RustContainerKind → EventKind
opening_event containers.Object = event.struct_start object
opening_event containers.Array = event.sequence_start array

-- the event of a bracket that closes a container
abbrev pub closing_event : RustContainerKind → EventKind
closing_event containers.Object = event.struct_end
closing_event containers.Array = event.sequence_end

-- the tokens of these brackets, and their bytes
abbrev pub opening_token : RustContainerKind → Kind
opening_token containers.Object = token.object_start
opening_token containers.Array = token.array_start

abbrev pub opening_bracket : RustContainerKind → ℕ
opening_bracket containers.Object = left_brace
opening_bracket containers.Array = left_bracket

abbrev pub closing_token : RustContainerKind → Kind
closing_token containers.Object = token.object_end
closing_token containers.Array = token.array_end

abbrev pub closing_bracket : RustContainerKind → ℕ
closing_bracket containers.Object = right_brace
closing_bracket containers.Array = right_bracket

abbrev pub turn_of : RustTurn → Turn
turn_of turns.Stops = stops
turn_of (turns.Passes p) = passes (place_of p)
turn_of (turns.Opens kind) = says (opening_event kind)
turn_of (turns.Closes kind) = says (closing_event kind)
turn_of turns.Scalar = says_scalar
turn_of turns.Names = place.names

-- what a token of this kind is at a place, where one stands
abbrev pub turn_by : Place → Option Kind → Turn
turn_by p None = stops
turn_by p (Some kind) = place_turn p kind

-- a string's token
abbrev pub is_string_token : RustToken → Bool
is_string_token (code.String start finish has_escapes) = true
is_string_token _ = false

-- The innermost container is of this kind.
abbrev pub innermost_of : Option RustContainerKind → List ContainerKind → Type 0
innermost_of None stack = stack ≡ []
innermost_of (Some kind) stack = (others : List ContainerKind) × (stack ≡ container_of kind ∷ others)

-- ---- what RFC 8259 has

-- The slices of a string or a number stand there: a number's is all of its bytes.
abbrev pub HasSlices : List ℕ → RustSpan → RustToken → Type 0
HasSlices buffer s (code.String start finish has_escapes) = (start ≤ finish) × (finish ≤ length buffer)
HasSlices buffer s (code.Number start finish h) = (start ≤ finish) × (finish ≤ length buffer) × (start ≡ s.offset) × (finish ≡ s.offset + s.len)
HasSlices buffer s _ = Unit {0}

-- The token is allowed, or refused for what is wrong with it.
abbrev pub IsJudged : List ℕ → Token → Result (Unit {0}) RustFault → Type 0
IsJudged buffer t (Ok nothing) = strict_fault buffer t ≡ None
IsJudged buffer t (Err e) = (f : Fault) × (strict_fault buffer t ≡ Some f) × (told_cut e.span e.kind ≡ Some (fault f))
