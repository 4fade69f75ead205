-- What is refused is what is cut where the refusal starts, on every buffer.
use Rattle.std.proofs.Common.{◌≡◌, ℕ, zero, suc, ◌+◌, ◌≤◌, ◌<◌, Bool, true, false, List, [], ◌∷◌, length, drop, slice_get, Some, Result, Ok, Err, IfErr, refl, sym, ap, ◌∙◌, subst, arith, length-drop}
use Rattle.std.proofs.lemmas.Bool.{eqb-true}
use Rattle.std.proofs.lemmas.List.{append-nil}
use Rattle.facet_format.specs.Bytes.{minus}
use Rattle.facet_format.specs.NumberParts.{Parts, parts, parts_len, parts_hint, is_bare}
use Rattle.facet_format.specs.Span.{Span}
use Rattle.facet_format.specs.Views.{span_of}
use Rattle.facet_format.specs.declared.event.Span.{Span as RustSpan}
use Rattle.facet_json_token.specs.declared.token.SpannedToken.{SpannedToken}
use Rattle.facet_json_token.specs.declared.token.ScanErrorKind.{ScanErrorKind}
use Rattle.facet_json_token.specs.declared.token.ScanErrorKind.TheVariants as scan
use Rattle.facet_json_token.specs.declared.token.ScanError.{ScanError}
use Rattle.facet_json_token.specs.Gap.{Mode, whole, growing}
use Rattle.facet_json_token.specs.GapLen.{piece_len}
use Rattle.facet_json_token.specs.Token.{Token}
use Rattle.facet_json_token.specs.Cut.{Cut, nothing_left, token, fault, start_of, opens_number, cut_number, cut_here, past_gap, cut}
use Rattle.facet_json_token.specs.Open.{IsBeginning, IsOpen}
use Rattle.facet_json_token.specs.Views.{scanned, fault_answer as fault_scanned}
use Rattle.facet_json_token.proofs.FirstBytes.{cut_here-something, cut_here-number}
use Rattle.facet_json_token.proofs.NumberCuts.{sign-bound, number_at}
use Rattle.facet_json_token.proofs.Gaps.{past_gap-ends, past_gap-again, cut-past_gap}
use Rattle.facet_json_token.proofs.Offsets.{drop-at_byte}
use Rattle.facet_json_token.proofs.Starts.{start_of-number}
use Rattle.facet_json_scan.specs.declared.scanner.token.Found.{Found}
use Rattle.facet_json_scan.specs.declared.scanner.token.Found.TheVariants as found
use Rattle.facet_json_scan.specs.Scanner.{needs_more, answer_for, idle, stands_after, past_growing_gap, Gives}
use Rattle.facet_json_scan.specs.ScannerViews.{answered, fault_answered}
use Rattle.facet_json_scan.specs.Inner.Found.{position_after, FoundFrom, FoundRefused, RefusedThere}
use Rattle.facet_json_scan.proofs.AnswersOfCuts.{found-here}
use Rattle.facet_json_scan.proofs.FoundPastGap.{growing_gap-none, same_gap, found-no_gap}
use Rattle.facet_json_scan.proofs.Growth.GrowthOfGap.{piece_len-keeps}
use Rattle.facet_json_scan.proofs.NoPiece.{no_piece}
use Rattle.facet_json_scan.proofs.Pieces.PendingNumber.{number-shut}

-- ---- which answers are refusals

-- What holds holds of a refusal.
if_refused : {X : Type 0} (r : Result SpannedToken ScanError) → X → IfErr r (λ _. X)
if_refused (Ok t) x = tt
if_refused (Err e) x = x

-- A token is no refusal.
pub token-no_refusal : (r : Result SpannedToken ScanError) (t : Token) (P : ScanError → Type 0) →
    scanned r ≡ Some (token t) → IfErr r P
token-no_refusal (Ok u) t P e = tt
token-no_refusal (Err f) t P e = absurd (no_token f.span f.kind e)
  where
    no_token : (s : RustSpan) (k : ScanErrorKind) → fault_scanned s k ≡ Some (token t) → ⊥
    no_token s (scan.UnexpectedChar c) e = cc
    no_token s (scan.UnexpectedEof text) e = cc
    no_token s scan.InvalidUtf8 e = cc

-- Nor is a call for more bytes.
pub more-no_refusal : (r : Result SpannedToken ScanError) (n : ℕ) (s : Span) (P : ScanError → Type 0) →
    answered r ≡ Some (needs_more n s) → IfErr r P
more-no_refusal (Ok u) n s P e = tt
more-no_refusal (Err f) n s P e = absurd (no_more (span_of f.span) f.kind e)
  where
    no_more : (place : Span) (k : ScanErrorKind) → fault_answered place k ≡ Some (needs_more n s) → ⊥
    no_more place (scan.UnexpectedChar c) e = cc
    no_more place (scan.UnexpectedEof text) e = cc
    no_more place scan.InvalidUtf8 e = cc

-- ---- where a gap ends

-- Where no piece of a whole input's gap stands, none of a growing one's does.
pub growing-none : (mode : Mode) (bytes : List ℕ) → piece_len mode whole bytes ≡ 0 → piece_len mode growing bytes ≡ 0
growing-none mode bytes none = by_piece (piece_len mode growing bytes) refl
  where
    by_piece : (n : ℕ) → piece_len mode growing bytes ≡ n → piece_len mode growing bytes ≡ 0
    by_piece zero e = e
    by_piece (suc n) e =
        let keeps : piece_len mode whole bytes ≡ suc n = rw append-nil at (piece_len-keeps mode bytes [] n e) in
        absurd (omega arith)

-- The gap of a growing buffer from there on is empty too.
pub growing_gap-again : (buffer : List ℕ) (p : ℕ) (mode : Mode) →
    past_growing_gap buffer (past_gap buffer p mode) mode ≡ past_gap buffer p mode
growing_gap-again buffer p mode =
    let at = past_gap buffer p mode in
    growing_gap-none mode buffer at (growing-none mode (drop at buffer) (past_gap-ends buffer p mode))

-- A buffer that isn't open isn't open there.
pub shut-past_gap : (buffer : List ℕ) (p : ℕ) (mode : Mode) → p ≤ length buffer → (IsOpen buffer p mode → ⊥) →
    IsOpen buffer (past_gap buffer p mode) mode → ⊥
shut-past_gap buffer p mode room shut i =
    shut (subst (λ n. IsBeginning mode (drop n buffer))
    (growing_gap-again buffer p mode ∙ same_gap mode buffer p room shut) i)

-- ---- what is refused

-- A refusal that is found is what is cut where it starts.
pub found-refused : (mode : Mode) (buffer : List ℕ) (p : ℕ) (f : Found) → p ≤ length buffer →
    FoundFrom mode buffer p f → RefusedThere mode buffer f
found-refused mode buffer p (found.Answer at r) room h =
    let there : FoundFrom mode buffer (past_gap buffer p mode) (found.Answer (past_gap buffer p mode) r) = (
      sym (past_gap-again buffer p mode),
      h.1 ∙ ap (λ c. Some (answer_for (length buffer) c)) (sym (cut-past_gap buffer p mode)),
      shut-past_gap buffer p mode room h.2,
    ) in
    if_refused r (subst (λ n. FoundFrom mode buffer n (found.Answer n r)) (sym h.0) there)
found-refused mode buffer p (found.Open at s) room h = tt

-- What is cut of a number whose first byte is a minus, where a byte follows, is a token or is refused there.
pub minus-refused : (mode : Mode) (buffer : List ℕ) (start : ℕ) (r : Result SpannedToken ScanError) →
    slice_get buffer start ≡ Some minus → start + 1 < length buffer →
    scanned r ≡ Some (number_at start (drop (start + 1) buffer) (parts (drop start buffer))) →
    FoundRefused mode buffer start r
minus-refused mode buffer start r here room e = by_bare (is_bare p) refl
  where
    rest : List ℕ
    rest = drop (start + 1) buffer

    p : Parts
    p = parts (drop start buffer)

    front : drop start buffer ≡ minus ∷ rest
    front = drop-at_byte buffer start minus here

    begins : start_of minus ≡ opens_number
    begins = start_of-number minus refl

    cuts : number_at start rest p ≡ cut_here mode start (drop start buffer)
    cuts = cut_here-number mode buffer start minus here begins

    none : piece_len mode growing (drop start buffer) ≡ 0
    none = ap (piece_len mode growing) front ∙ no_piece mode growing minus rest refl refl

    shut : is_bare p ≡ true → IsBeginning mode (drop start buffer) → ⊥
    shut bare i =
        number-shut mode minus rest begins
        (λ all. omega (
          arith,
          all,
          ap (λ l. parts_len (parts l)) front,
          ap length front,
          length-drop start buffer,
          eqb-true (parts_len p) p.sign bare,
          sign-bound (drop start buffer),
        ))
        (subst (IsBeginning mode) front i)

    by_bare : (t : Bool) → is_bare p ≡ t → FoundRefused mode buffer start r
    by_bare false is =
        token-no_refusal r _ _ (e ∙ ap (λ t. Some (cut_number start rest (parts_len p) (parts_hint p) t)) is)
    by_bare true is =
        if_refused r (found-no_gap mode buffer start (found.Answer start r) (omega arith) none
        (found-here mode buffer start r (number_at start rest p) e
        (λ n. cut_here-something mode buffer start minus here (sym cuts ∙ n)) cuts (shut is)))

-- ---- what a call that refuses gives

-- Where a fault is cut, the scanner stands where the gap ends.
stands-refused : (buffer : List ℕ) (p : ℕ) (mode : Mode) (s : Span) (k : ScanErrorKind) (last : ℕ) (c : Cut) →
    fault_answered s k ≡ Some (answer_for last c) → past_gap buffer p mode ≡ stands_after buffer p mode c
stands-refused buffer p mode s k last (fault f) e = refl
stands-refused buffer p mode s (scan.UnexpectedChar ch) last nothing_left e = cc
stands-refused buffer p mode s (scan.UnexpectedEof text) last nothing_left e = cc
stands-refused buffer p mode s scan.InvalidUtf8 last nothing_left e = cc
stands-refused buffer p mode s (scan.UnexpectedChar ch) last (token t) e = cc
stands-refused buffer p mode s (scan.UnexpectedEof text) last (token t) e = cc
stands-refused buffer p mode s scan.InvalidUtf8 last (token t) e = cc

-- A refusal that is what is cut where the scanner is left is what a call from there gives.
pub gives-refused : (buffer : List ℕ) (start : ℕ) (mode : Mode) (r : Result SpannedToken ScanError) →
    FoundRefused mode buffer start r →
    IfErr r (λ _. Gives buffer (position_after start r) mode (answered r) (idle (position_after start r) mode))
gives-refused buffer start mode (Ok t) h = tt
gives-refused buffer start mode (Err f) h =
    Gives.decided h.2 h.1
    (ap (λ n. idle n mode)
    (h.0 ∙ stands-refused buffer start mode (span_of f.span) f.kind (length buffer) (cut buffer start mode) h.1))
