-- What the end of the input makes of what is pending.
use Rattle.std.proofs.Common.{get_or, ◌≡◌, ℕ, ◌<◌, ◌≤◌, true, false, List, [], ◌∷◌, ◌++◌, length, take, drop, Some, None, Ok, Err, inl, inr, refl, sym, ap, ◌∙◌, subst, arith}
use Rattle.std.proofs.lemmas.Bool.{cases_lt}
use Rattle.std.proofs.lemmas.List.{take_all, append-nil}
use Rattle.std.proofs.lemmas.List.Elements.{All-push}
use Rattle.std.proofs.lemmas.Option.{slice_get-get_or}
use Rattle.facet_format.specs.Span.{stop}
use Rattle.facet_format.specs.Views.{span_of}
use Rattle.facet_json_token.specs.declared.token.SpannedToken.{SpannedToken}
use Rattle.facet_json_token.specs.declared.token.ScanError.{ScanError}
use Rattle.facet_json_token.specs.Token.{Token}
use Rattle.facet_json_token.specs.Cut.{Cut, nothing_left, token, fault, cut_here, cut}
use Rattle.facet_json_token.specs.Tokens.{Tokens, ended, refused, next, AreCuts}
use Rattle.facet_json_token.proofs.CutBounds.{cut-token_fits}
use Rattle.facet_json_token.proofs.TokensSteps.{cut-end}
use Rattle.facet_json_scan.specs.Scanner.{Scanner, answer_for, first_unread, Describes, GoesOnFrom}
use Rattle.facet_json_scan.specs.ScannerViews.{answered}
use Rattle.facet_json_scan.proofs.Pieces.Beginnings.{described_begins}
use Rattle.facet_json_scan.proofs.WholeTokens.{token-shut}
use Rattle.facet_json_scan.specs.Listed.{tokens_of_list, AreAllOf, StandsWithin}
use Rattle.facet_json_scan.specs.Inner.Stands.{is_cut, Stands, IsFinished}
use Rattle.facet_json_scan.proofs.GrowthOfPieces.{goes_on-first}
use Rattle.facet_json_scan.proofs.Pending.{pending_here}
use Rattle.facet_json_scan.proofs.Refused.{token-no_refusal, fault-refuses}
use Rattle.facet_json_scan.proofs.Steps.{token_listed, refusal_listed}

-- A token that is pending ends where the buffer does.
pending_to_end : (buffer : List ℕ) (s : Scanner) (start : ℕ) (t : Token) → GoesOnFrom s buffer start →
    s.position ≡ length buffer → start ≤ length buffer → cut buffer start s.mode ≡ token t → stop t.span ≡ length buffer
unfolding cut
pending_to_end buffer s _ t (GoesOnFrom.idles e) end room here =
    let none : cut buffer s.position s.mode ≡ nothing_left = cut-end buffer s.position s.mode (omega arith) in
    let c = sym none ∙ here in cc
pending_to_end buffer s start t (GoesOnFrom.resumes _ state e d) end room here =
    let f = cut-token_fits buffer start s.mode t room here in
    let described : Describes s.mode state (drop start buffer) =
    subst (λ l. Describes s.mode state (drop start l)) (take_all s.position buffer (omega arith)) d in
    let pending = pending_here buffer start s.mode state described (λ none. let c = sym none ∙ here in cc) in
    let cut_there : cut_here s.mode start (drop start buffer) ≡ token t =
    ap (λ n. cut_here s.mode n (drop n buffer)) (sym pending.0) ∙ here in
    let some : start < length buffer = omega (arith, f.behind, f.some, f.within) in
    elim (cases_lt (stop t.span) (length buffer)) [
      | inl short ↦
          absurd (token-shut s.mode buffer start (get_or buffer start 0) t (slice_get-get_or buffer start 0 some) some
          cut_there short (described_begins s.mode state (drop start buffer) described))
      | inr long ↦ omega (arith, f.within, long)
    ]

module _ (buffer : List ℕ) (tokens : List SpannedToken) (s : Scanner) (h : Stands buffer tokens s) (end : s.position ≡ length buffer) where
  -- what is cut of the buffer alone is what the scanner is asked for at the end
  pub cut_at_end : cut (take s.position buffer) (first_unread s) s.mode ≡ cut buffer h.start s.mode
  cut_at_end =
      ap (λ l. cut l (first_unread s) s.mode) (take_all s.position buffer (omega arith))
      ∙ ap (λ n. cut buffer n s.mode) (goes_on-first s buffer h.start h.goes_on)

  -- the tokens so far are those of the buffer alone, with these after them
  alone : (others : Tokens) → AreCuts buffer s.mode h.start others → AreAllOf buffer s.mode (tokens_of_list tokens (Some others))
  alone others are =
      subst (λ l. AreAllOf l s.mode (tokens_of_list tokens (Some others))) (append-nil buffer)
      (h.so_far [] others (subst (λ l. AreCuts l s.mode h.start others) (sym (append-nil buffer)) are))

  pub token-last : (u : SpannedToken) → is_cut (answered (Ok u)) ≡ true → StandsWithin (length buffer) u →
      answered (Ok u) ≡ Some (answer_for s.position (cut (take s.position buffer) (first_unread s) s.mode)) →
      IsFinished buffer s.mode (tokens ++ u ∷ []) None
  token-last u told fits is = by (cut buffer h.start s.mode) refl (is ∙ ap (λ c. Some (answer_for s.position c)) cut_at_end)
    where
      by : (c : Cut) → cut buffer h.start s.mode ≡ c → answered (Ok u) ≡ Some (answer_for s.position c) →
          IsFinished buffer s.mode (tokens ++ u ∷ []) None
      by nothing_left here is = let c = sym (ap is_cut is) ∙ told in cc
      by (fault f) here is = let c = sym (ap is_cut is) ∙ told in cc
      by (token t) here is =
          let last = pending_to_end buffer s h.start t h.goes_on end h.within here in
          let none = cut-end buffer (stop t.span) s.mode (omega arith) in
          let all = alone (next t ended) (AreCuts.goes_on h.start t ended here (AreCuts.ends (stop t.span) none)) in
          record {
            fit = All-push (StandsWithin (length buffer)) tokens u h.fit fits;
            refusal_fits = tt;
            all = subst (λ l. AreAllOf l s.mode (tokens_of_list (tokens ++ u ∷ []) (Some ended))) (append-nil buffer)
                (token_listed buffer tokens s s h u t [] ended is
                (subst (λ l. AreAllOf l s.mode (tokens_of_list tokens (Some (next t ended)))) (sym (append-nil buffer)) all));
          }

  pub rest-last : (u : SpannedToken) → is_cut (answered (Ok u)) ≡ false →
      answered (Ok u) ≡ Some (answer_for s.position (cut (take s.position buffer) (first_unread s) s.mode)) →
      IsFinished buffer s.mode tokens None
  rest-last u told is = by (cut buffer h.start s.mode) refl (is ∙ ap (λ c. Some (answer_for s.position c)) cut_at_end)
    where
      by : (c : Cut) → cut buffer h.start s.mode ≡ c → answered (Ok u) ≡ Some (answer_for s.position c) →
          IsFinished buffer s.mode tokens None
      by nothing_left here is =
          record { fit = h.fit; refusal_fits = tt; all = alone ended (AreCuts.ends h.start here) }
      by (token t) here is = let c = sym (ap is_cut is) ∙ told in cc
      by (fault f) here is = absurd (token-no_refusal (span_of u.span) u.token f is)

  pub refusal-last : (e : ScanError) → stop (span_of e.span) ≤ length buffer →
      answered (Err e) ≡ Some (answer_for s.position (cut (take s.position buffer) (first_unread s) s.mode)) →
      IsFinished buffer s.mode tokens (Some e)
  refusal-last e fits is = by (cut buffer h.start s.mode) refl (is ∙ ap (λ c. Some (answer_for s.position c)) cut_at_end)
    where
      by : (c : Cut) → cut buffer h.start s.mode ≡ c → answered (Err e) ≡ Some (answer_for s.position c) →
          IsFinished buffer s.mode tokens (Some e)
      by nothing_left here is = let r = fault-refuses (span_of e.span) e.kind _ is in let c = r.1 in cc
      by (token t) here is = let r = fault-refuses (span_of e.span) e.kind _ is in let c = r.1 in cc
      by (fault f) here is = record {
        fit = h.fit;
        refusal_fits = fits;
        all = refusal_listed buffer tokens s s h e f buffer is (alone (refused f) (AreCuts.breaks_off h.start f here));
      }
