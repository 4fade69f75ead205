-- What an answer of a scan says, where it is a token or a fault that is cut.
use Rattle.std.proofs.Common.{◌≡◌, ◌≢◌, ℕ, ◌+◌, ◌≤◌, true, List, length, drop, slice_get, Option, Some, None, Result, Ok, Err, IfOk, refl, sym, ap, ◌∙◌, subst, arith}
use Rattle.std.specs.Option.{option_map}
use Rattle.std.proofs.lemmas.List.{length-drop}
use Rattle.std.proofs.lemmas.Option.{slice_get_within}
use Rattle.facet_json_token.specs.declared.token.Token.{Token as RustToken}
use Rattle.facet_json_token.specs.declared.token.Token.TheVariants as code
use Rattle.facet_format.specs.declared.event.Span.{Span as RustSpan}
use Rattle.facet_json_token.specs.declared.token.SpannedToken.{SpannedToken}
use Rattle.facet_json_token.specs.declared.token.ScanErrorKind.{ScanErrorKind}
use Rattle.facet_json_token.specs.declared.token.ScanErrorKind.TheVariants as scan
use Rattle.facet_json_token.specs.declared.token.ScanError.{ScanError}
use Rattle.facet_format.specs.NumberParts.{starts_number, parts}
use Rattle.facet_format.specs.Span.{Span, stop, span_at}
use Rattle.facet_json_token.specs.Gap.{Mode}
use Rattle.facet_json_token.specs.Cut.{Cut, nothing_left, token, fault, cut_here}
use Rattle.facet_json_token.specs.Open.{IsBeginning}
use Rattle.facet_json_token.specs.Token.{Kind, string, number}
use Rattle.facet_json_scan.specs.Scanner.{ended, answer_for}
use Rattle.facet_json_token.specs.Views.{scanned, token_answer as token_scanned, fault_answer as fault_scanned}
use Rattle.facet_json_scan.specs.ScannerViews.{answered, token_answered, fault_answered, span_answered, NamesWithin, IndicesWithin}
use Rattle.facet_json_scan.specs.Inner.Found.{FoundHere}
use Rattle.facet_format.specs.Views.{span_of}
use Rattle.facet_json_scan.specs.declared.scanner.token.Found.TheVariants as found
use Rattle.facet_json_token.proofs.CutBounds.{KindFits, CutFits, here_fits}
use Rattle.facet_json_token.proofs.FirstBytes.{cut_here-something, cut_here-number}
use Rattle.facet_json_token.proofs.NumberCuts.{number_at}
use Rattle.facet_json_token.proofs.Starts.{start_of-number}

-- The indices of a kind stand in order within the first `last` bytes.
abbrev pub KindWithin : ℕ → Kind → Type 0
KindWithin last (string start finish has_escapes) = (start ≤ finish) × (finish ≤ last)
KindWithin last (number start finish hint) = (start ≤ finish) × (finish ≤ last)
KindWithin last _ = Unit {0}

-- A token or a fault is cut, which ends within the first `last` bytes, and so do the token's indices.
abbrev pub EndsWithin : ℕ → Cut → Type 0
EndsWithin last nothing_left = ⊥
EndsWithin last (token t) = (stop t.span ≤ last) × KindWithin last t.kind
EndsWithin last (fault f) = stop f.span ≤ last

-- A token that is cut is answered.
token-answered : (s : RustSpan) (t : RustToken) (c : Cut) (last : ℕ) → token_scanned s t ≡ Some c → c ≢ nothing_left →
    token_answered (span_of s) t ≡ Some (answer_for last c)
token-answered s code.Eof c last e some = absurd (some (cc))
token-answered s (code.NeedMore consumed) c last e some = cc
token-answered s t c last e some = ap (option_map (answer_for last)) e

-- So is a fault.
fault-answered : (s : RustSpan) (k : ScanErrorKind) (c : Cut) (last : ℕ) → fault_scanned s k ≡ Some c →
    fault_answered (span_of s) k ≡ Some (answer_for last c)
fault-answered s (scan.UnexpectedChar ch) c last e = ap (option_map (answer_for last)) e
fault-answered s (scan.UnexpectedEof text) c last e = ap (option_map (answer_for last)) e
fault-answered s scan.InvalidUtf8 c last e = cc

-- A token or a fault that is cut is answered.
pub answered-cut : (r : Result SpannedToken ScanError) (c : Cut) (last : ℕ) → scanned r ≡ Some c → c ≢ nothing_left →
    answered r ≡ Some (answer_for last c)
answered-cut (Ok t) c last e some = token-answered t.span t.token c last e some
answered-cut (Err f) c last e some = fault-answered f.span f.kind c last e

-- the same of what is cut, if anything is
abbrev Ends : ℕ → Option Cut → Type 0
Ends last None = ⊥
Ends last (Some c) = EndsWithin last c

token-ends : (s : RustSpan) (t : RustToken) (last : ℕ) → Ends last (token_scanned s t) →
    (stop (span_of s) ≤ last) × NamesWithin last t
token-ends s code.Eof last h = absurd h
token-ends s (code.NeedMore consumed) last h = absurd h
token-ends s t last h = h

fault-ends : (s : RustSpan) (k : ScanErrorKind) (last : ℕ) → Ends last (fault_scanned s k) → stop (span_of s) ≤ last
fault-ends s (scan.UnexpectedChar ch) last h = h
fault-ends s (scan.UnexpectedEof text) last h = h
fault-ends s scan.InvalidUtf8 last h = absurd h

answer-ends : (r : Result SpannedToken ScanError) (last : ℕ) → Ends last (scanned r) →
    (stop (span_answered r) ≤ last) × IndicesWithin last r
answer-ends (Ok t) last h = token-ends t.span t.token last h
answer-ends (Err f) last h = (fault-ends f.span f.kind last h, tt)

-- Its span ends where what is cut ends, and its indices stand within.
pub answered-ends : (r : Result SpannedToken ScanError) (c : Cut) (last : ℕ) → scanned r ≡ Some c → EndsWithin last c →
    (stop (span_answered r) ≤ last) × IndicesWithin last r
answered-ends r c last e h = answer-ends r last (subst (Ends last) (sym e) h)

-- The indices of a kind that says the truth of the buffer stand in it.
kind-within : (buffer : List ℕ) (s : Span) (k : Kind) → KindFits buffer s k → s.offset ≤ stop s →
    stop s ≤ length buffer → KindWithin (length buffer) k
kind-within buffer s (string start finish has_escapes) h order room = (h.ordered, omega (arith, h.within))
kind-within buffer s (number start finish hint) h order room =
    (omega (arith, h.starts, h.finishes), omega (arith, h.finishes))
kind-within buffer s _ h order room = tt

-- What fits ends within.
pub fits-within : (buffer : List ℕ) (p : ℕ) (c : Cut) → CutFits buffer p c → c ≢ nothing_left →
    EndsWithin (length buffer) c
fits-within buffer p nothing_left h some = absurd (some refl)
fits-within buffer p (token t) h some =
    (h.within, kind-within buffer t.span t.kind h.kind_fits (omega (arith, h.some)) h.within)
fits-within buffer p (fault f) h some = h.within

-- What is cut where a byte stands ends within the buffer.
pub cut_here-ends : (mode : Mode) (buffer : List ℕ) (at b : ℕ) → slice_get buffer at ≡ Some b →
    EndsWithin (length buffer) (cut_here mode at (drop at buffer))
cut_here-ends mode buffer at b here =
    let room = slice_get_within buffer at b here in
    fits-within buffer at _ (here_fits mode buffer (drop at buffer) at refl (omega (arith, length-drop at buffer)))
    (cut_here-something mode buffer at b here)

-- Where a number is cut, its span ends within the buffer, and its indices stand within.
pub number-answered : (mode : Mode) (buffer : List ℕ) (at b : ℕ) (r : Result SpannedToken ScanError) →
    slice_get buffer at ≡ Some b → starts_number b ≡ true →
    scanned r ≡ Some (number_at at (drop (at + 1) buffer) (parts (drop at buffer))) →
    (stop (span_answered r) ≤ length buffer) × IndicesWithin (length buffer) r
number-answered mode buffer at b r here starts e =
    answered-ends r (cut_here mode at (drop at buffer)) (length buffer)
    (e ∙ ap Some (cut_here-number mode buffer at b here (start_of-number b starts)))
    (cut_here-ends mode buffer at b here)

-- What is found where no gap is before it: what is cut there, and nothing longer begins.
pub found-here : (mode : Mode) (buffer : List ℕ) (start : ℕ) (r : Result SpannedToken ScanError) (c : Cut) →
    scanned r ≡ Some c → c ≢ nothing_left → c ≡ cut_here mode start (drop start buffer) →
    (IsBeginning mode (drop start buffer) → ⊥) → FoundHere mode buffer start (found.Answer start r)
found-here mode buffer start r c e some is shut =
    (refl, answered-cut r c (length buffer) e some ∙ ap (λ x. Some (answer_for (length buffer) x)) is, shut)

token-or_end : (s : RustSpan) (t : RustToken) (c : Cut) (last : ℕ) → token_scanned s t ≡ Some c →
    (t ≡ code.Eof → span_of s ≡ span_at last 0) → token_answered (span_of s) t ≡ Some (answer_for last c)
token-or_end s code.Eof c last e end = ap (λ v. Some (ended v)) (end refl) ∙ ap (option_map (answer_for last)) e
token-or_end s (code.NeedMore consumed) c last e end = cc
token-or_end s t c last e end = ap (option_map (answer_for last)) e

-- What is cut is answered, the end too.
pub answered-cut_or_end : (r : Result SpannedToken ScanError) (c : Cut) (last : ℕ) → scanned r ≡ Some c →
    IfOk r (λ t. t.token ≡ code.Eof → span_of t.span ≡ span_at last 0) → answered r ≡ Some (answer_for last c)
answered-cut_or_end (Ok t) c last e end = token-or_end t.span t.token c last e end
answered-cut_or_end (Err f) c last e end = fault-answered f.span f.kind c last e

token-end_within : (s : RustSpan) (t : RustToken) (c : Cut) (last : ℕ) → token_scanned s t ≡ Some c →
    (t ≡ code.Eof → span_of s ≡ span_at last 0) → (c ≢ nothing_left → EndsWithin last c) →
    (stop (span_of s) ≤ last) × NamesWithin last t
token-end_within s code.Eof c last e end h = (omega (arith, ap stop (end refl)), tt)
token-end_within s (code.NeedMore consumed) c last e end h = cc
token-end_within s t c last e end h =
    token-ends s t last (subst (Ends last) (sym e) (h (λ n. let same = e ∙ ap Some n in cc)))

-- Its span ends where what is cut ends, or at the end, and its indices stand within.
pub answered-end_within : (r : Result SpannedToken ScanError) (c : Cut) (last : ℕ) → scanned r ≡ Some c →
    IfOk r (λ t. t.token ≡ code.Eof → span_of t.span ≡ span_at last 0) → (c ≢ nothing_left → EndsWithin last c) →
    (stop (span_answered r) ≤ last) × IndicesWithin last r
answered-end_within (Ok t) c last e end h = token-end_within t.span t.token c last e end h
answered-end_within (Err f) c last e end h =
    answer-ends (Err f) last (subst (Ends last) (sym e) (h (λ n. fault-some f.span f.kind (e ∙ ap Some n))))
  where
    fault-some : (s : RustSpan) (k : ScanErrorKind) → fault_scanned s k ≡ Some nothing_left → ⊥
    fault-some s (scan.UnexpectedChar ch) e = cc
    fault-some s (scan.UnexpectedEof text) e = cc
    fault-some s scan.InvalidUtf8 e = cc
