-- What an error says that says what a fault says.
use Rattle.std.proofs.Common.{◌≡◌, ℕ, Some, refl, ap, ◌∙◌}
use Rattle.facet_format.specs.declared.event.Span.{Span as RustSpan}
use Rattle.facet_json_token.specs.declared.fault.FaultKind.TheVariants as faults
use Rattle.facet_json_token.specs.declared.fault.Fault.{Fault}
use Rattle.facet_json_token.specs.declared.token.ScanErrorKind.{ScanErrorKind}
use Rattle.facet_json_token.specs.declared.token.ScanErrorKind.TheVariants as scan
use Rattle.facet_json_token.specs.declared.token.ScanError.{ScanError}
use Rattle.facet_format.specs.Complaint.{refusal_at}
use Rattle.facet_format.specs.Views.{span_of}
use Rattle.facet_json_token.specs.Token.{unexpected_char}
use Rattle.facet_json_token.specs.Views.{answer_at, complaint_of, fault_answer, error_says, scan_refusal, fault_says, told_cut, told_refusal, SaysFault}

-- It is passed on as the fault is.
pub says-refusal : (f : Fault) (e : ScanError) → SaysFault f e → scan_refusal e ≡ told_refusal f
says-refusal f e says =
    ap (λ k. refusal_at (complaint_of k) (span_of e.span)) says.kind ∙ ap (λ s. refusal_at (complaint_of (fault_says f.kind)) (span_of s)) says.span

-- It answers what the fault answers.
pub says-cut : (f : Fault) (e : ScanError) → SaysFault f e → fault_answer e.span e.kind ≡ told_cut f.span f.kind
says-cut f e says = ap (λ s. answer_at s (error_says e.kind)) says.span ∙ ap (answer_at f.span) says.kind

the_char : (c : ℕ) (e : ScanErrorKind) → error_says e ≡ Some (unexpected_char c) → e ≡ scan.UnexpectedChar c
the_char c (scan.UnexpectedChar d) says = cc
the_char c (scan.UnexpectedEof text) says = absurd cc
the_char c scan.InvalidUtf8 says = absurd cc

-- Of a character it is the error of that character.
pub says-char : (c : ℕ) (s : RustSpan) (e : ScanError) → SaysFault (record { kind = faults.UnexpectedChar c; span = s }) e →
    e ≡ record { kind = scan.UnexpectedChar c; span = s }
says-char c s e says = rw (← the_char c e.kind says.kind, ← says.span) refl
