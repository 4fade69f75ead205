-- What the types of the code stand for in the definitions: modes, tokens, faults, and what a scan returns.
use Rattle.std.specs.Prelude.{◌≡◌, List, ℕ, Option, Some, None, Result, Ok, Err, codes}
use Rattle.facet_json_token.specs.declared.mode.Mode.{Mode as RustMode}
use Rattle.facet_json_token.specs.declared.mode.Mode.TheVariants as mode
use Rattle.facet_format.specs.declared.event.Span.{Span as RustSpan}
use Rattle.facet_json_token.specs.declared.token.Token.{Token as RustToken}
use Rattle.facet_json_token.specs.declared.token.Token.TheVariants as code
use Rattle.facet_json_token.specs.declared.token.SpannedToken.{SpannedToken}
use Rattle.facet_json_token.specs.declared.fault.Inside.{Inside}
use Rattle.facet_json_token.specs.declared.fault.Inside.TheVariants as insides
use Rattle.facet_json_token.specs.declared.fault.FaultKind.{FaultKind as RustFaultKind}
use Rattle.facet_json_token.specs.declared.fault.FaultKind.TheVariants as faults
use Rattle.facet_json_token.specs.declared.fault.Fault.{Fault}
use Rattle.facet_json_token.specs.declared.token.ScanErrorKind.{ScanErrorKind}
use Rattle.facet_json_token.specs.declared.token.ScanErrorKind.TheVariants as scan
use Rattle.facet_json_token.specs.declared.token.ScanError.{ScanError}
use Rattle.facet_format.specs.Span.{Span}
use Rattle.facet_format.specs.Complaint.{Complaint, Refusal}
use Rattle.facet_format.specs.Complaint as complaint
use Rattle.facet_format.specs.Views.{span_of, hint_of}
use Rattle.facet_json_token.specs.Gap.{Mode, plain, jsonc}
use Rattle.facet_json_token.specs.Token.{Kind, FaultKind, in_string, in_number, in_literal, in_block_comment}
use Rattle.facet_json_token.specs.Token as token
use Rattle.facet_json_token.specs.Cut.{Cut, nothing_left, fault}
use Rattle.facet_json_token.specs.Cut as cutting
use Rattle.facet_json_token.specs.declared.token.ScanErrorKind.TheVariants.{InvalidUtf8}

abbrev pub mode_of : RustMode → Mode
mode_of mode.Plain = plain
mode_of mode.Jsonc = jsonc

-- the kind of a token; the end and a call for more bytes are none
abbrev pub kind_of : RustToken → Option Kind
kind_of code.ObjectStart = Some token.object_start
kind_of code.ObjectEnd = Some token.object_end
kind_of code.ArrayStart = Some token.array_start
kind_of code.ArrayEnd = Some token.array_end
kind_of code.Colon = Some token.colon
kind_of code.Comma = Some token.comma
kind_of code.Null = Some token.null
kind_of code.True = Some token.true_literal
kind_of code.False = Some token.false_literal
kind_of (code.String start finish has_escapes) = Some (token.string start finish has_escapes)
kind_of (code.Number start finish h) = Some (token.number start finish (hint_of h))
kind_of code.Eof = None
kind_of (code.NeedMore consumed) = None

abbrev pub with_span : Span → Option Kind → Option Cut
with_span s None = None
with_span s (Some kind) = Some (cutting.token (record { kind = kind; span = s }))

-- what a scan answers; a call for more bytes and a text that isn't UTF-8 are no answer of the definitions
abbrev pub token_answer : RustSpan → RustToken → Option Cut
token_answer s code.Eof = Some nothing_left
token_answer s t = with_span (span_of s) (kind_of t)

-- what an error says is wrong: `None` of a text that isn't UTF-8
abbrev pub error_says : ScanErrorKind → Option FaultKind
error_says (scan.UnexpectedChar c) = Some (token.unexpected_char c)
error_says (scan.UnexpectedEof text) = Some (token.unexpected_eof text.now)
error_says scan.InvalidUtf8 = None

abbrev pub answer_at : RustSpan → Option FaultKind → Option Cut
answer_at s None = None
answer_at s (Some kind) = Some (fault (record { kind = kind; span = span_of s }))

abbrev pub fault_answer : RustSpan → ScanErrorKind → Option Cut
fault_answer s e = answer_at s (error_says e)

abbrev pub scanned : Result SpannedToken ScanError → Option Cut
scanned (Ok t) = token_answer t.span t.token
scanned (Err e) = fault_answer e.span e.kind

-- how what is wrong is passed on
abbrev pub complaint_of : Option FaultKind → Complaint
complaint_of None = complaint.invalid_utf8
complaint_of (Some (token.unexpected_char c)) = complaint.unexpected_char c (codes "valid JSON token")
complaint_of (Some (token.unexpected_eof text)) = complaint.unexpected_eof text

abbrev pub scan_complaint : ScanErrorKind → Complaint
scan_complaint e = complaint_of (error_says e)

abbrev pub scan_refusal : ScanError → Refusal
scan_refusal e = complaint.refusal_at (scan_complaint e.kind) (span_of e.span)

-- ---- faults

-- inside of what the input ends
abbrev pub inside_text : Inside → List ℕ
inside_text insides.String = in_string
inside_text insides.Number = in_number
inside_text insides.Literal = in_literal
inside_text insides.BlockComment = in_block_comment
inside_text insides.Escape = codes "in escape sequence"
inside_text insides.UnicodeEscape = codes "in unicode escape"

-- what a fault says is wrong
abbrev pub fault_says : RustFaultKind → Option FaultKind
fault_says (faults.UnexpectedChar c) = Some (token.unexpected_char c)
fault_says (faults.UnexpectedEof inside) = Some (token.unexpected_eof (inside_text inside))
fault_says faults.InvalidUtf8 = None

abbrev pub told_cut : RustSpan → RustFaultKind → Option Cut
told_cut s f = answer_at s (fault_says f)

-- what a cut answers
abbrev pub cut_of : Result SpannedToken Fault → Option Cut
cut_of (Ok t) = token_answer t.span t.token
cut_of (Err f) = told_cut f.span f.kind

-- how a fault is passed on
abbrev pub told_complaint : RustFaultKind → Complaint
told_complaint f = complaint_of (fault_says f)

abbrev pub told_refusal : Fault → Refusal
told_refusal f = complaint.refusal_at (told_complaint f.kind) (span_of f.span)

-- The error says what the fault says.
abbrev pub SaysKind : RustFaultKind → ScanErrorKind → Type 0
SaysKind f e = error_says e ≡ fault_says f

-- So does one that says where.
pub record SaysFault (f : Fault) (e : ScanError) : Type 0 where
  pub kind : SaysKind f.kind e.kind
  pub span : e.span ≡ f.span
