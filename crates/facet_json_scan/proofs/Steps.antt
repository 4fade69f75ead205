-- What a call of the scanner makes of what is known.
use Rattle.std.proofs.Common.{get_or, ◌≡◌, ℕ, ◌<◌, ◌≤◌, true, false, List, [], ◌∷◌, ◌++◌, length, drop, Some, Ok, Err, inl, inr, refl, sym, ap, ◌∙◌, subst, arith, length-drop}
use Rattle.std.proofs.lemmas.Bool.{cases_lt}
use Rattle.std.proofs.lemmas.List.{take_all}
use Rattle.std.proofs.lemmas.List.Elements.{All-push}
use Rattle.std.proofs.lemmas.Option.{slice_get-get_or}
use Rattle.facet_format.specs.Span.{stop}
use Rattle.facet_format.specs.Views.{span_of}
use Rattle.facet_json_token.specs.declared.token.SpannedToken.{SpannedToken}
use Rattle.facet_json_token.specs.declared.token.ScanError.{ScanError}
use Rattle.facet_json_token.specs.Gap.{Mode, growing}
use Rattle.facet_json_token.specs.Token.{Token, Fault}
use Rattle.facet_json_token.specs.Cut.{Cut, nothing_left, token, fault, past_gap, cut}
use Rattle.facet_json_token.specs.Tokens.{Tokens, refused, next, AreCuts}
use Rattle.facet_json_token.specs.Open.{IsOpen}
use Rattle.facet_json_token.proofs.CutBounds.{cut-token_fits, past_gap-bound}
use Rattle.facet_json_token.proofs.FirstBytes.{cut_here-something}
use Rattle.facet_json_token.proofs.Gaps.{gap_len-bound}
use Rattle.facet_json_scan.specs.Scanner.{Scanner, State, cuts, refuses, answer_for, idle, waiting, first_unread, stands_after, Describes, GoesOnFrom, past_growing_gap, Gives}
use Rattle.facet_json_scan.specs.ScannerViews.{answered}
use Rattle.facet_json_scan.proofs.FoundPastGap.{same_gap}
use Rattle.facet_json_scan.proofs.Growth.GrowthOfCut.{cut_stays}
use Rattle.facet_json_scan.specs.Listed.{token_then, tokens_of_list, rest_after, refused_by, AreAllOf, StandsWithin}
use Rattle.facet_json_scan.specs.Inner.Stands.{is_cut, Stands, IsScanRefused}
use Rattle.facet_json_scan.proofs.GrowthOfPieces.{goes_on-first}
use Rattle.facet_json_scan.proofs.PassedGap.{cuts-passed}
use Rattle.facet_json_scan.proofs.Refused.{token-no_refusal, fault-refuses, list_of-more}

-- Where nothing is left the gap goes to the end.
gap_to_end : (buffer : List ℕ) (p : ℕ) (mode : Mode) → p ≤ length buffer → cut buffer p mode ≡ nothing_left →
    past_gap buffer p mode ≡ length buffer
unfolding cut
gap_to_end buffer p mode room e =
    let at = past_gap buffer p mode in
    elim (cases_lt at (length buffer)) [
      | inl h ↦ absurd (cut_here-something mode buffer at (get_or buffer at 0) (slice_get-get_or buffer at 0 h) e)
      | inr h ↦ omega (arith, past_gap-bound buffer p mode room, h)
    ]

module _ (buffer : List ℕ) (tokens : List SpannedToken) (s new : Scanner) (h : Stands buffer tokens s) where
  -- ---- a token

  -- It follows those before it.
  pub token_listed : (u : SpannedToken) (t : Token) (more : List ℕ) (others : Tokens) → answered (Ok u) ≡ Some (cuts t) →
      AreAllOf (buffer ++ more) s.mode (tokens_of_list tokens (Some (next t others))) →
      AreAllOf (buffer ++ more) s.mode (tokens_of_list (tokens ++ u ∷ []) (Some others))
  token_listed u t more others is are =
      let same : tokens_of_list (tokens ++ u ∷ []) (Some others) ≡ tokens_of_list tokens (Some (next t others)) =
      list_of-more tokens u (Some others) ∙ ap (λ a. tokens_of_list tokens (token_then a (Some others))) is in
      subst (AreAllOf (buffer ++ more) s.mode) (sym same) are

  -- The scanner stands after it.
  after_token : (u : SpannedToken) (t : Token) → answered (Ok u) ≡ Some (cuts t) → cut buffer h.start s.mode ≡ token t →
      (IsOpen buffer h.start s.mode → ⊥) → StandsWithin (length buffer) u → Stands buffer (tokens ++ u ∷ []) (idle (stop t.span) s.mode)
  after_token u t is here shut fits =
      let f = cut-token_fits buffer h.start s.mode t h.within here in
      record {
        start = stop t.span;
        goes_on = GoesOnFrom.idles refl;
        within = f.within;
        position_within = f.within;
        fit = All-push (StandsWithin (length buffer)) tokens u h.fit fits;
        so_far = λ more others are.
            let stays = cut_stays buffer more h.start s.mode h.within shut (λ none. let c = sym here ∙ none in cc) ∙ here in
            token_listed u t more others is (h.so_far more (next t others) (AreCuts.goes_on h.start t others stays are));
      }

  -- A token that is answered is kept, and the scanner stands further on.
  pub token-step : (u : SpannedToken) → is_cut (answered (Ok u)) ≡ true → StandsWithin (length buffer) u →
      Gives buffer h.start s.mode (answered (Ok u)) new →
      Stands buffer (tokens ++ u ∷ []) new × (first_unread s < first_unread new) × (first_unread new ≤ length buffer)
  token-step u told fits (Gives.still_open state i d is to) = let c = sym (ap is_cut is) ∙ told in cc
  token-step u told fits (Gives.decided shut is to) = by (cut buffer h.start s.mode) refl is to
    where
      by : (c : Cut) → cut buffer h.start s.mode ≡ c → answered (Ok u) ≡ Some (answer_for (length buffer) c) →
          new ≡ idle (stands_after buffer h.start s.mode c) s.mode →
          Stands buffer (tokens ++ u ∷ []) new × (first_unread s < first_unread new) × (first_unread new ≤ length buffer)
      by nothing_left here is to = let c = sym (ap is_cut is) ∙ told in cc
      by (fault f) here is to = let c = sym (ap is_cut is) ∙ told in cc
      by (token t) here is to =
          let f = cut-token_fits buffer h.start s.mode t h.within here in
          let first = goes_on-first s buffer h.start h.goes_on in
          let last : first_unread new ≡ stop t.span = ap first_unread to in (
            subst (Stands buffer (tokens ++ u ∷ [])) (sym to) (after_token u t is here shut fits),
            omega (arith, f.behind, f.some, first, last),
            omega (arith, f.within, last),
          )

  -- ---- no token

  -- The scanner waits for more bytes of what is open.
  after_open : (state : State) → Describes s.mode state (drop (past_growing_gap buffer h.start s.mode) buffer) →
      Stands buffer tokens (waiting (length buffer) s.mode (past_growing_gap buffer h.start s.mode) state)
  after_open state d =
      let past = past_growing_gap buffer h.start s.mode in
      record {
        start = past;
        goes_on = GoesOnFrom.resumes past state refl
            (subst (λ l. Describes s.mode state (drop past l)) (sym (take_all (length buffer) buffer (omega arith))) d);
        within = omega (arith, h.within, gap_len-bound s.mode growing (drop h.start buffer), length-drop h.start buffer);
        position_within = omega arith;
        fit = h.fit;
        so_far = λ more others are. h.so_far more others (cuts-passed buffer more h.start s.mode others h.within are);
      }

  -- The scanner stands at the end, after a gap.
  after_gap : cut buffer h.start s.mode ≡ nothing_left → (IsOpen buffer h.start s.mode → ⊥) →
      Stands buffer tokens (idle (length buffer) s.mode)
  after_gap here shut =
      let ends : past_growing_gap buffer h.start s.mode ≡ length buffer =
      sym (same_gap s.mode buffer h.start h.within shut) ∙ gap_to_end buffer h.start s.mode h.within here in
      record {
        start = length buffer;
        goes_on = GoesOnFrom.idles refl;
        within = omega arith;
        position_within = omega arith;
        fit = h.fit;
        so_far = λ more others are.
            h.so_far more others (cuts-passed buffer more h.start s.mode others h.within
            (subst (λ n. AreCuts (buffer ++ more) s.mode n others) (sym ends) are));
      }

  -- Where no token is answered, the scanner stands at the end of the buffer.
  pub rest-step : (u : SpannedToken) → is_cut (answered (Ok u)) ≡ false → Gives buffer h.start s.mode (answered (Ok u)) new →
      Stands buffer tokens new × (new.position ≡ length buffer)
  rest-step u told (Gives.still_open state i d is to) =
      (subst (Stands buffer tokens) (sym to) (after_open state d), ap (λ n. n.position) to)
  rest-step u told (Gives.decided shut is to) = by (cut buffer h.start s.mode) refl is to
    where
      by : (c : Cut) → cut buffer h.start s.mode ≡ c → answered (Ok u) ≡ Some (answer_for (length buffer) c) →
          new ≡ idle (stands_after buffer h.start s.mode c) s.mode → Stands buffer tokens new × (new.position ≡ length buffer)
      by nothing_left here is to =
          (subst (Stands buffer tokens) (sym to) (after_gap here shut), ap (λ n. n.position) to)
      by (token t) here is to = let c = sym (ap is_cut is) ∙ told in cc
      by (fault f) here is to = absurd (token-no_refusal (span_of u.span) u.token f is)

  -- ---- a refusal

  -- It follows the tokens.
  pub refusal_listed : (e : ScanError) (f : Fault) (input : List ℕ) → answered (Err e) ≡ Some (refuses f) →
      AreAllOf input s.mode (tokens_of_list tokens (Some (refused f))) → AreAllOf input s.mode (tokens_of_list tokens (rest_after (Some e)))
  refusal_listed e f input is are =
      let last : Some (refused f) ≡ rest_after (Some e) = sym (ap refused_by is) in
      subst (λ o. AreAllOf input s.mode (tokens_of_list tokens o)) last are

  pub refusal-step : (e : ScanError) → stop (span_of e.span) ≤ length buffer → Gives buffer h.start s.mode (answered (Err e)) new →
      IsScanRefused buffer s.mode tokens e
  refusal-step e fits (Gives.still_open state i d is to) = let r = fault-refuses (span_of e.span) e.kind _ is in let c = r.1 in cc
  refusal-step e fits (Gives.decided shut is to) = by (cut buffer h.start s.mode) refl is
    where
      by : (c : Cut) → cut buffer h.start s.mode ≡ c → answered (Err e) ≡ Some (answer_for (length buffer) c) →
          IsScanRefused buffer s.mode tokens e
      by nothing_left here is = let r = fault-refuses (span_of e.span) e.kind _ is in let c = r.1 in cc
      by (token t) here is = let r = fault-refuses (span_of e.span) e.kind _ is in let c = r.1 in cc
      by (fault f) here is = record {
        fit = h.fit;
        refusal_fits = fits;
        all = λ more.
            let stays = cut_stays buffer more h.start s.mode h.within shut (λ none. let c = sym here ∙ none in cc) ∙ here in
            refusal_listed e f (buffer ++ more) is (h.so_far more (refused f) (AreCuts.breaks_off h.start f stays));
      }
