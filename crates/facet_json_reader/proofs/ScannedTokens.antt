-- What an answer of the plain cut in code says of its own slices, and where it stops the reader.
use Rattle.std.proofs.Common.{◌≡◌, ℕ, ◌≤◌, List, length, Some, Ok, Err, sym, subst, ◌∙◌, arith}
use Rattle.std.proofs.lemmas.Option.{same_Some}
use Rattle.facet_format.specs.declared.event.Span.{Span as RustSpan}
use Rattle.facet_json_token.specs.declared.token.Token.{Token as RustToken}
use Rattle.facet_json_token.specs.declared.token.Token.TheVariants as code
use Rattle.facet_json_token.specs.declared.token.SpannedToken.{SpannedToken}
use Rattle.facet_json_token.specs.declared.fault.Fault.{Fault as RustFault}
use Rattle.facet_format.specs.Complaint.{Refusal}
use Rattle.facet_format.specs.Span.{stop}
use Rattle.facet_format.specs.Views.{span_of, hint_of}
use Rattle.facet_json_grammar.specs.Language.{Language}
use Rattle.facet_json_grammar.specs.StrictTokens.{tokens_in, cut_in}
use Rattle.facet_json_token.specs.Token.{Kind}
use Rattle.facet_json_token.specs.Views.{kind_of, cut_of, told_refusal}
use Rattle.facet_json_token.proofs.CutBounds.{KindFits, StringFits, NumberFits}
use Rattle.facet_json_grammar.specs.Place.{Place}
use Rattle.facet_json_grammar.specs.Refusal.{at_fault}
use Rattle.facet_json_reader.proofs.CutsAtPlaces.{IsCut, ends, stands, is_cut, is_refused}
use Rattle.facet_json_reader.specs.TokenViews.{CanBeRead}
use Rattle.facet_json_reader.specs.Views.{StopsAt}

-- ---- a token

-- Where the token's kind says the truth, its slices can be read.
CanBeRead-fits : (buffer : List ℕ) (s : RustSpan) (t : RustToken) (kind : Kind) → stop (span_of s) ≤ length buffer →
    kind_of t ≡ Some kind → KindFits buffer (span_of s) kind → CanBeRead buffer s t
CanBeRead-fits buffer s (code.String a b h) kind w k f =
    let g : StringFits buffer (span_of s) a b h = subst (KindFits buffer (span_of s)) (sym (same_Some _ _ k)) f in
    record {
      starts = omega (arith, g.starts);
      finishes = omega (arith, g.finishes);
      ordered = g.ordered;
      within = omega (arith, g.within);
      escapes = g.escapes;
    }
CanBeRead-fits buffer s (code.Number a b h) kind w k f =
    let g : NumberFits buffer (span_of s) a b (hint_of h) = subst (KindFits buffer (span_of s)) (sym (same_Some _ _ k)) f
    in
    record {
      starts = g.starts;
      finishes = g.finishes;
      within = omega (arith, g.finishes);
      is_a_number = g.is_a_number;
    }
CanBeRead-fits buffer s (code.NeedMore n) kind w k f = cc
CanBeRead-fits buffer s _ kind w k f = tt

-- What is cut can be read.
can_be : (buffer : List ℕ) (position : ℕ) (language : Language) (t : SpannedToken) → IsCut buffer position language t →
    CanBeRead buffer t.span t.token
can_be buffer position language t (ends is_end none) = rw is_end tt
can_be buffer position language t (stands s) = CanBeRead-fits buffer t.span t.token s.kind s.within s.is_kind s.fits

pub cut-readable : (buffer : List ℕ) (position : ℕ) (language : Language) (t : SpannedToken) → position ≤ length buffer →
    cut_of (Ok t) ≡ Some (cut_in language buffer position) → CanBeRead buffer t.span t.token
cut-readable buffer position language t p e = can_be buffer position language t (is_cut buffer position language t p e)

-- ---- a fault

-- A fault stops the reader wherever it stands.
pub fault-stops : (buffer : List ℕ) (position : ℕ) (language : Language) (e : RustFault) (place : Place) (r : Refusal) → position ≤ length buffer →
    cut_of (Err e) ≡ Some (cut_in language buffer position) → r ≡ told_refusal e →
    StopsAt buffer place (tokens_in language buffer position) r
fault-stops buffer position language e place r room h p =
    let f = is_refused buffer position language e room h in rw (p ∙ f.passed_on, f.tokens) (at_fault place f.what)
