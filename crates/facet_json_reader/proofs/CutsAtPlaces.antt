-- What an answer of the plain cut in code says of the tokens that are left.
use Rattle.std.proofs.Common.{◌≡◌, ℕ, ◌≤◌, ◌<◌, List, length, Some, Ok, Err, refl, sym, subst, arith}
use Rattle.std.proofs.lemmas.Option.{same_Some}
use Rattle.facet_format.specs.declared.event.Span.{Span as RustSpan}
use Rattle.facet_json_token.specs.declared.token.Token.{Token as RustToken}
use Rattle.facet_json_token.specs.declared.token.Token.TheVariants as code
use Rattle.facet_json_token.specs.declared.token.SpannedToken.{SpannedToken}
use Rattle.facet_json_token.specs.declared.fault.FaultKind.{FaultKind}
use Rattle.facet_json_token.specs.declared.fault.FaultKind.TheVariants as faults
use Rattle.facet_json_token.specs.declared.fault.Fault.{Fault as RustFault}
use Rattle.facet_format.specs.Complaint.{refusal_at}
use Rattle.facet_format.specs.Span.{stop}
use Rattle.facet_format.specs.Views.{span_of}
use Rattle.facet_json_grammar.specs.Language.{Language, lenient, strict}
use Rattle.facet_json_grammar.specs.StrictTokens.{tokens_in, cut_in}
use Rattle.facet_json_token.specs.Token.{Kind, Token, Fault}
use Rattle.facet_json_token.specs.Token as token
use Rattle.facet_json_token.specs.Cut.{Cut, nothing_left, token as cut_token, fault, cut}
use Rattle.facet_json_token.specs.Tokens.{ended, refused, next}
use Rattle.facet_json_token.specs.Views.{kind_of, token_answer, inside_text, told_cut, cut_of, told_refusal}
use Rattle.facet_json_token.proofs.CutBounds.{TokenFits, KindFits, cut-token_fits}
use Rattle.facet_json_grammar.proofs.TokensIn.{tokens_in-token, tokens_in-fault, tokens_in-nothing, strict_token-is}
use Rattle.facet_json_grammar.specs.Place.{complaint_of_fault}

-- What is cut of either language fits there.
cut_in-token_fits : (language : Language) (buffer : List ℕ) (position : ℕ) (t : Token) → position ≤ length buffer →
    cut_in language buffer position ≡ cut_token t → TokenFits buffer position t
cut_in-token_fits (lenient mode) buffer position t p e = cut-token_fits buffer position mode t p e
cut_in-token_fits (strict mode) buffer position t p e =
    cut-token_fits buffer position mode t p (strict_token-is buffer (cut buffer position mode) t e).0

-- ---- a token

-- The answer is the end, or a token of that kind.
pub data TokenAnswer (s : RustSpan) (t : RustToken) : Cut → Type 0 where
  the_end : t ≡ code.Eof → TokenAnswer s t nothing_left
  a_token : (kind : Kind) → kind_of t ≡ Some kind →
      TokenAnswer s t (cut_token (record { kind = kind; span = span_of s }))

a_kind : (s : RustSpan) (t : RustToken) (kind : Kind) (c : Cut) → kind_of t ≡ Some kind →
    cut_token (record { kind = kind; span = span_of s }) ≡ c → TokenAnswer s t c
a_kind s t kind c k e = subst (TokenAnswer s t) e (a_token kind k)

pub token_answer-is : (s : RustSpan) (t : RustToken) (c : Cut) → token_answer s t ≡ Some c → TokenAnswer s t c
token_answer-is s code.Eof c e = subst (TokenAnswer s code.Eof) (same_Some _ _ e) (the_end refl)
token_answer-is s (code.NeedMore n) c e = cc
token_answer-is s t c e = a_kind s t _ c refl (same_Some _ _ e)

-- What is known of a token that is cut, and of what is left after it.
pub record Scans (buffer : List ℕ) (position : ℕ) (language : Language) (t : SpannedToken) : Type 0 where
  pub kind : Kind
  pub is_kind : kind_of t.token ≡ Some kind
  pub past : position < stop (span_of t.span)
  pub within : stop (span_of t.span) ≤ length buffer
  pub fits : KindFits buffer (span_of t.span) kind
  pub tokens : tokens_in language buffer position
      ≡ next (record { kind = kind; span = span_of t.span }) (tokens_in language buffer (stop (span_of t.span)))

-- The cut says that the end is there, or a token.
pub data IsCut (buffer : List ℕ) (position : ℕ) (language : Language) (t : SpannedToken) : Type 0 where
  ends : t.token ≡ code.Eof → tokens_in language buffer position ≡ ended → IsCut buffer position language t
  stands : Scans buffer position language t → IsCut buffer position language t

cut_by : (buffer : List ℕ) (position : ℕ) (language : Language) (t : SpannedToken) (c : Cut) → position ≤ length buffer →
    cut_in language buffer position ≡ c → TokenAnswer t.span t.token c → IsCut buffer position language t
cut_by buffer position language t _ p e (the_end is_end) = ends is_end (tokens_in-nothing language buffer position e)
cut_by buffer position language t _ p e (a_token kind k) =
    let whole : Token = record { kind = kind; span = span_of t.span } in
    let fits : TokenFits buffer position whole = cut_in-token_fits language buffer position whole p e in
    stands (record {
      kind = kind;
      is_kind = k;
      past = omega (arith, fits.behind, fits.some);
      within = fits.within;
      fits = fits.kind_fits;
      tokens = tokens_in-token language buffer position whole p e;
    })

pub is_cut : (buffer : List ℕ) (position : ℕ) (language : Language) (t : SpannedToken) → position ≤ length buffer →
    cut_of (Ok t) ≡ Some (cut_in language buffer position) → IsCut buffer position language t
is_cut buffer position language t p e = cut_by buffer position language t _ p refl (token_answer-is t.span t.token _ e)

-- ---- a fault

-- A fault, and how it is passed on.
record FaultAnswer (e : RustFault) (c : Cut) : Type 0 where
  what : Fault
  is_fault : c ≡ fault what
  passed_on : told_refusal e ≡ refusal_at (complaint_of_fault what.kind) what.span

fault_answer-is : (s : RustSpan) (kind : FaultKind) (c : Cut) → told_cut s kind ≡ Some c →
    FaultAnswer (record { kind = kind; span = s }) c
fault_answer-is s (faults.UnexpectedChar ch) c e = record {
  what = record { kind = token.unexpected_char ch; span = span_of s };
  is_fault = sym (same_Some _ _ e);
  passed_on = refl;
}
fault_answer-is s (faults.UnexpectedEof inside) c e = record {
  what = record { kind = token.unexpected_eof (inside_text inside); span = span_of s };
  is_fault = sym (same_Some _ _ e);
  passed_on = refl;
}
fault_answer-is s faults.InvalidUtf8 c e = cc

-- What is known of a fault that is cut: it ends the tokens, and is passed on so.
pub record Refuses (buffer : List ℕ) (position : ℕ) (language : Language) (e : RustFault) : Type 0 where
  pub what : Fault
  pub passed_on : told_refusal e ≡ refusal_at (complaint_of_fault what.kind) what.span
  pub tokens : tokens_in language buffer position ≡ refused what

pub is_refused : (buffer : List ℕ) (position : ℕ) (language : Language) (e : RustFault) → position ≤ length buffer →
    cut_of (Err e) ≡ Some (cut_in language buffer position) → Refuses buffer position language e
is_refused buffer position language e p h =
    let a : FaultAnswer e (cut_in language buffer position) = fault_answer-is e.span e.kind _ h in
    record { what = a.what; passed_on = a.passed_on; tokens = tokens_in-fault language buffer position a.what p a.is_fault }
