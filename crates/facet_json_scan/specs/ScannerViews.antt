-- What the answers of a scanner stand for in the definitions.
use Rattle.std.specs.Prelude.{ℕ, Option, Some, None, Result, Ok, Err, ◌≤◌}
use Rattle.facet_json_token.specs.declared.token.Token.{Token as RustToken}
use Rattle.facet_json_token.specs.declared.token.Token.TheVariants as code
use Rattle.facet_json_token.specs.declared.token.SpannedToken.{SpannedToken}
use Rattle.facet_json_token.specs.declared.token.ScanErrorKind.{ScanErrorKind}
use Rattle.facet_json_token.specs.declared.token.ScanError.{ScanError}
use Rattle.facet_format.specs.Span.{Span}
use Rattle.facet_format.specs.Views.{span_of}
use Rattle.facet_json_token.specs.Token.{Kind, FaultKind}
use Rattle.facet_json_scan.specs.Scanner.{ScanAnswer, needs_more, ended, cuts, refuses}
use Rattle.facet_json_token.specs.Views.{kind_of, error_says}

-- a token of this kind, or no answer
abbrev pub cut_answer : Span → Option Kind → Option ScanAnswer
cut_answer s None = None
cut_answer s (Some kind) = Some (cuts (record { kind = kind; span = s }))

abbrev pub token_answered : Span → RustToken → Option ScanAnswer
token_answered s code.Eof = Some (ended s)
token_answered s (code.NeedMore consumed) = Some (needs_more consumed s)
token_answered s t = cut_answer s (kind_of t)

-- what is wrong, or no answer
abbrev pub refused_answer : Span → Option FaultKind → Option ScanAnswer
refused_answer s None = None
refused_answer s (Some kind) = Some (refuses (record { kind = kind; span = s }))

abbrev pub fault_answered : Span → ScanErrorKind → Option ScanAnswer
fault_answered s e = refused_answer s (error_says e)

-- what a scan answers; a text that isn't UTF-8 is no answer of the definitions
abbrev pub answered : Result SpannedToken ScanError → Option ScanAnswer
answered (Ok t) = token_answered (span_of t.span) t.token
answered (Err e) = fault_answered (span_of e.span) e.kind

-- the bytes that an answer is about
abbrev pub span_answered : Result SpannedToken ScanError → Span
span_answered (Ok t) = span_of t.span
span_answered (Err e) = span_of e.span

-- The indices that a token names stand in order within the first `last` bytes.
abbrev pub NamesWithin : ℕ → RustToken → Type 0
NamesWithin last (code.String start finish has_escapes) = (start ≤ finish) × (finish ≤ last)
NamesWithin last (code.Number start finish h) = (start ≤ finish) × (finish ≤ last)
NamesWithin last (code.NeedMore consumed) = consumed ≤ last
NamesWithin last _ = Unit {0}

-- So do those of an answer.
abbrev pub IndicesWithin : ℕ → Result SpannedToken ScanError → Type 0
IndicesWithin last (Ok t) = NamesWithin last t.token
IndicesWithin last (Err e) = Unit {0}

-- where a scanner stands after the last answer: where it stood, or at `first` after a refusal
abbrev pub stands_last : ℕ → ℕ → Result SpannedToken ScanError → ℕ
stands_last position first (Ok t) = position
stands_last position first (Err e) = first
