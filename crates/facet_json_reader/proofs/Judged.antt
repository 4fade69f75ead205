-- The slices of a token that is cut, and what RFC 8259 says of it.
use Rattle.std.proofs.Common.{◌≡◌, ℕ, ◌+◌, ◌-◌, ◌≤◌, Bool, true, false, List, length, Some, refl, sym, subst, ◌∙◌, arith, slice_range}
use Rattle.std.specs.Prelude.{Result, Ok, Err, MatchResult, IfSome, IsSome}
use Rattle.std.proofs.lemmas.Option.{same_Some}
use Rattle.facet_format.specs.declared.event.Span.{Span as RustSpan}
use Rattle.facet_json_token.specs.declared.token.Token.{Token as RustToken}
use Rattle.facet_json_token.specs.declared.token.Token.TheVariants as code
use Rattle.facet_json_token.specs.declared.token.SpannedToken.{SpannedToken}
use Rattle.facet_json_token.specs.declared.fault.Fault.{Fault as RustFault}
use Rattle.facet_format.specs.Number.{Hint}
use Rattle.facet_format.specs.Span.{stop}
use Rattle.facet_format.specs.Views.{span_of, hint_of}
use Rattle.facet_json_token.specs.Cut.{Cut, cut}
use Rattle.facet_json_token.specs.Gap.{Mode}
use Rattle.facet_json_token.specs.Token.{Kind, number, unexpected_char}
use Rattle.facet_json_token.specs.Views.{kind_of, cut_of, told_cut}
use Rattle.facet_json_token.proofs.CutBounds.{KindFits, StringFits, NumberFits}
use Rattle.facet_json_token.specs.RfcNumber.{IsRfcNumber}
use Rattle.facet_json_token.specs.RfcNumberTest.{is_rfc_number}
use Rattle.facet_json_token.specs.NumberViews.{number_fault}
use Rattle.facet_json_token.proofs.RfcNumbers.{is_rfc-sound, is_rfc-complete}
use Rattle.facet_json_grammar.specs.Language.{lenient}
use Rattle.facet_json_grammar.specs.StrictTokens.{strict_cut}
use Rattle.facet_json_reader.specs.PlaceViews.{HasSlices, IsJudged}
use Rattle.facet_json_reader.proofs.CutsAtPlaces.{IsCut, ends, stands, is_cut, TokenAnswer, the_end, a_token, token_answer-is}

-- ---- slices

slices-fit : (buffer : List ℕ) (s : RustSpan) (t : RustToken) (kind : Kind) → stop (span_of s) ≤ length buffer →
    kind_of t ≡ Some kind → KindFits buffer (span_of s) kind → HasSlices buffer s t
slices-fit buffer s (code.String a b h) kind w k f =
    let g : StringFits buffer (span_of s) a b h = subst (KindFits buffer (span_of s)) (sym (same_Some _ _ k)) f in
    (g.ordered, omega (arith, g.within))
slices-fit buffer s (code.Number a b h) kind w k f =
    let g : NumberFits buffer (span_of s) a b (hint_of h) = subst (KindFits buffer (span_of s)) (sym (same_Some _ _ k)) f in
    (omega (arith, g.starts, g.finishes), omega (arith, g.finishes), g.starts, g.finishes)
slices-fit buffer s _ kind w k f = tt

has_slices : (buffer : List ℕ) (position : ℕ) (mode : Mode) (t : SpannedToken) → IsCut buffer position (lenient mode) t → HasSlices buffer t.span t.token
has_slices buffer position mode t (ends is_end none) = rw is_end tt
has_slices buffer position mode t (stands s) = slices-fit buffer t.span t.token s.kind s.within s.is_kind s.fits

pub cut-slices : (buffer : List ℕ) (position : ℕ) (mode : Mode) (t : SpannedToken) → position ≤ length buffer →
    cut_of (Ok t) ≡ Some (cut buffer position mode) → HasSlices buffer t.span t.token
cut-slices buffer position mode t p e = has_slices buffer position mode t (is_cut buffer position (lenient mode) t p e)

-- ---- numbers

pub judged-number : (buffer : List ℕ) (s : RustSpan) (start finish : ℕ) (hint : Hint) (r : Result (Unit {0}) RustFault) →
    start ≡ s.offset → finish ≡ s.offset + s.len →
    MatchResult r (λ _. IsRfcNumber (slice_range buffer start finish))
    (λ e. (IsRfcNumber (slice_range buffer start finish) → ⊥) × (e ≡ number_fault start finish)) →
    IsJudged buffer (record { kind = number start finish hint; span = span_of s }) r
judged-number buffer s start finish hint (Ok nothing) a b n = rw (is_rfc-complete _ n) refl
judged-number buffer s start finish hint (Err e) a b n = by (is_rfc_number (slice_range buffer start finish)) refl
  where
    by : (x : Bool) → is_rfc_number (slice_range buffer start finish) ≡ x →
        IsJudged buffer (record { kind = number start finish hint; span = span_of s }) (Err e)
    by true is = absurd (n.0 (is_rfc-sound _ is))
    by false is =
        let len : finish - start ≡ s.len = omega (arith, a, b) in
        let same = n.1 in
        (record { kind = unexpected_char 0x3f; span = span_of s }, rw is refl, rw (same, len, a) refl)

-- ---- what is refused

judged-err : (buffer : List ℕ) (t : SpannedToken) (c : Cut) (e : RustFault) → TokenAnswer t.span t.token c →
    IfSome (kind_of t.token) (λ k. IsJudged buffer (record { kind = k; span = span_of t.span }) (Err e)) → IsSome (kind_of t.token) →
    told_cut e.span e.kind ≡ Some (strict_cut buffer c)
judged-err buffer t _ e (the_end is_end) j some = let no = rw is_end at some in cc
judged-err buffer t _ e (a_token kind k) j some =
    let judged = rw k at j in
    let wrong = judged.1 in
    judged.2 ∙ rw (wrong, strict_cut) refl

-- What is refused of a token that is cut is the fault that RFC 8259 has there.
pub cut-refused : (buffer : List ℕ) (position : ℕ) (mode : Mode) (t : SpannedToken) (e : RustFault) → cut_of (Ok t) ≡ Some (cut buffer position mode) →
    IfSome (kind_of t.token) (λ k. IsJudged buffer (record { kind = k; span = span_of t.span }) (Err e)) → IsSome (kind_of t.token) →
    told_cut e.span e.kind ≡ Some (strict_cut buffer (cut buffer position mode))
cut-refused buffer position mode t e h j some = judged-err buffer t _ e (token_answer-is t.span t.token _ h) j some
