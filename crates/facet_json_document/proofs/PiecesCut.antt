-- What the code finds at an offset is the first piece there.
use Rattle.std.proofs.Common.{◌≡◌, ℕ, suc, ◌-◌, ◌≤◌, ◌+◌, Bool, true, false, cond, ◌==◌, List, [], ◌∷◌, length, take, drop, slice_get, Option, Some, None, refl, sym, ap, ◌∙◌, subst, arith, length-drop}
use Rattle.std.specs.Prelude.{Ok, Err}
use Rattle.std.specs.Option.{option_map}
use Rattle.std.proofs.lemmas.List.{drop-drop, drop_all, take_rest, length-take-le}
use Rattle.std.proofs.lemmas.Option.{slice_get_within}
use Rattle.facet_format.specs.Bytes.{is_space, slash, star}
use Rattle.facet_format.specs.Views.{span_of}
use Rattle.facet_json_token.specs.Gap.{Mode, plain, jsonc, whole}
use Rattle.facet_json_token.specs.GapLen.{through_block_end, through_line_end, with_mark, piece_len, gap_len}
use Rattle.facet_json_token.specs.Token.{Token, unexpected_char, unexpected_eof, in_block_comment}
use Rattle.facet_json_token.specs.Cut.{Cut, nothing_left, token, fault_at, start_of, cut_here, past_gap, cut}
use Rattle.facet_json_token.specs.Views.{cut_of, token_answer, told_cut}
use Rattle.facet_json_token.specs.declared.token.SpannedToken.{SpannedToken}
use Rattle.facet_json_token.specs.declared.token.Token.TheVariants as code
use Rattle.facet_json_token.specs.declared.fault.Fault.{Fault as RustFault}
use Rattle.facet_json_token.specs.declared.fault.FaultKind.{FaultKind as RustFaultKind}
use Rattle.facet_json_token.specs.declared.fault.FaultKind.TheVariants as faults
use Rattle.facet_json_token.proofs.CutBounds.{TokenFits, cut-token_fits}
use Rattle.facet_json_token.proofs.Gaps.{gap_len-none}
use Rattle.facet_json_token.proofs.Offsets.{drop-at_byte, option_map-none}
use Rattle.facet_json_reader.proofs.CutsAtPlaces.{TokenAnswer, the_end, a_token, token_answer-is}
use Rattle.facet_json_document.specs.declared.pieces.Sort.TheVariants as sort
use Rattle.facet_json_document.specs.Pieces.{trimmed, pieces, closing_next}
use Rattle.facet_json_document.specs.Inner.Layout.{sort_by, BeginsPiece, all_tokens}
use Rattle.facet_json_document.proofs.PieceShapes.{no_gap}
use Rattle.facet_json_document.proofs.PiecesFound.{token-found, nothing-cut, nothing-found, closes_first, closing-first, block-piece, ended-line, last-line}

-- ---- tokens

module _ (mode : Mode) (text : List ℕ) (at b : ℕ) (first : slice_get text at ≡ Some b) (no_space : is_space b ≡ false) (no_slash : (b == slash) ≡ false) where
  here : drop at text ≡ b ∷ drop (at + 1) text
  here = drop-at_byte text at b first

  -- No gap is there.
  cut-there : cut text at mode ≡ cut_here mode at (b ∷ drop (at + 1) text)
  unfolding cut
  cut-there =
      let none : piece_len mode whole (drop at text) ≡ 0 = ap (piece_len mode whole) here ∙ no_gap mode b (drop (at + 1) text) no_space no_slash in
      let past : past_gap text at mode ≡ at = omega (arith, gap_len-none mode whole (drop at text) none) in
      ap (λ n. cut_here mode n (drop n text)) past ∙ ap (cut_here mode at) here

  within : at ≤ length text
  within = omega (arith, slice_get_within text at b first)

  piece_by : (t : SpannedToken) (c : Cut) → cut text at mode ≡ c → TokenAnswer t.span t.token c → (t.token ≡ code.Eof → ⊥) →
      (at + t.span.len ≤ length text) × BeginsPiece mode (drop at text) (sort_by b) t.span.len
  piece_by t _ e (the_end is) not_end = absurd (not_end is)
  piece_by t _ e (a_token kind k) not_end =
      let fits : TokenFits text at (record { kind = kind; span = span_of t.span }) = cut-token_fits text at mode _ within e in
      let piece = token-found mode at b (drop (at + 1) text) (record { kind = kind; span = span_of t.span }) no_space no_slash (sym cut-there ∙ e) (omega (arith, fits.some)) in
      (omega (arith, fits.behind, fits.within), subst (λ l. BeginsPiece mode l (sort_by b) t.span.len) (sym here) piece)

  pub piece-at : (t : SpannedToken) → cut_of (Ok t) ≡ Some (cut text at mode) → (t.token ≡ code.Eof → ⊥) →
      (at + t.span.len ≤ length text) × BeginsPiece mode (drop at text) (sort_by b) t.span.len
  piece-at t e not_end = piece_by t _ refl (token_answer-is t.span t.token _ e) not_end

  pub piece-there : (t : SpannedToken) → cut_of (Ok t) ≡ Some (cut text at mode) → (t.token ≡ code.Eof → ⊥) →
      (at ≤ at + t.span.len) × BeginsPiece mode (drop at text) (sort_by b) (at + t.span.len - at)
  piece-there t e not_end =
      let size : t.span.len ≡ at + t.span.len - at = omega arith in
      (omega arith, subst (BeginsPiece mode (drop at text) (sort_by b)) size (piece-at t e not_end).1)

  -- Where no token is cut, not all tokens are.
  pub nothing-at : ((t : Token) → cut text at mode ≡ token t → ⊥) → all_tokens (pieces mode (drop at text)) ≡ true → pieces mode (drop at text) ≡ []
  nothing-at none all =
      absurd (nothing-found mode at b (drop (at + 1) text) no_space no_slash (λ t e. none t (cut-there ∙ e)) (ap (λ l. all_tokens (pieces mode l)) (sym here) ∙ all))

pub told-none : (e : RustFault) (c : Cut) (t : Token) → cut_of (Err e) ≡ Some c → c ≡ token t → ⊥
told-none e c t told is = by e.kind (told ∙ ap Some is)
  where
    by : (k : RustFaultKind) → told_cut e.span k ≡ Some (token t) → ⊥
    by (faults.UnexpectedChar ch) f = cc
    by (faults.UnexpectedEof inside) f = cc
    by faults.InvalidUtf8 f = cc

pub end-none : (u : SpannedToken) (c : Cut) (t : Token) → cut_of (Ok u) ≡ Some c → u.token ≡ code.Eof → c ≡ token t → ⊥
end-none u c t told is_end is =
    let end : Some nothing_left ≡ Some (token t) = ap (token_answer u.span) (sym is_end) ∙ told ∙ ap Some is in cc

-- ---- the next token

pub closing-there : (mode : Mode) (text : List ℕ) (at to : ℕ) → to ≡ past_gap text at mode → closing_next (pieces mode (drop at text)) ≡ closes_first (drop to text)
closing-there mode text at to e =
    closing-first mode 0 (drop at text) ∙ ap closes_first (drop-drop (gap_len mode whole (drop at text)) at text ∙ ap (λ n. drop n text) (sym e))

-- ---- comments

after-mark : (text : List ℕ) (at b : ℕ) → slice_get text at ≡ Some slash → slice_get text (at + 1) ≡ Some b → drop at text ≡ slash ∷ b ∷ drop (at + 2) text
after-mark text at b first second =
    drop-at_byte text at slash first
    ∙ ap (λ l. slash ∷ l) (drop-at_byte text (at + 1) b second ∙ ap (λ n. b ∷ drop n text) (omega arith))

module _ (text : List ℕ) (at : ℕ) (first : slice_get text at ≡ Some slash) where
  pub block-at : slice_get text (at + 1) ≡ Some star → (end : ℕ) → Some end ≡ option_map (λ n. (at + 2) + n) (through_block_end (drop (at + 2) text)) →
      (at ≤ end) × BeginsPiece jsonc (drop at text) sort.Block (end - at)
  block-at second end e = by (through_block_end (drop (at + 2) text)) refl e
    where
      by : (o : Option ℕ) → through_block_end (drop (at + 2) text) ≡ o → Some end ≡ option_map (λ n. (at + 2) + n) o →
          (at ≤ end) × BeginsPiece jsonc (drop at text) sort.Block (end - at)
      by None is f = cc
      by (Some m) is f =
          let there : end ≡ (at + 2) + m = cc in
          let size : suc (suc m) ≡ end - at = omega (arith, there) in (
            omega (arith, there),
            subst (λ n. BeginsPiece jsonc (drop at text) sort.Block n) size
                (subst (λ l. BeginsPiece jsonc l sort.Block (suc (suc m))) (sym (after-mark text at star first second)) (block-piece (drop (at + 2) text) m is)),
          )

  -- A line comment whose text ends there.
  line_by : slice_get text (at + 1) ≡ Some slash → (end stops : ℕ) → BeginsPiece jsonc (drop at text) sort.Line (length (trimmed (take (stops - at) (drop at text)))) →
      take (end - at) (drop at text) ≡ trimmed (take (stops - at) (drop at text)) → end ≤ length text → BeginsPiece jsonc (drop at text) sort.Line (end - at)
  line_by second end stops piece same h =
      let size : length (trimmed (take (stops - at) (drop at text))) ≡ end - at =
      ap length (sym same) ∙ length-take-le (end - at) (drop at text) (omega (arith, length-drop at text)) in
      subst (λ n. BeginsPiece jsonc (drop at text) sort.Line n) size piece

  pub ended-at : slice_get text (at + 1) ≡ Some slash → (end stops : ℕ) → Some stops ≡ option_map (λ n. (at + 2) + n) (through_line_end (drop (at + 2) text)) →
      take (end - at) (drop at text) ≡ trimmed (take (stops - at) (drop at text)) → end ≤ length text → BeginsPiece jsonc (drop at text) sort.Line (end - at)
  ended-at second end stops e same h = by (through_line_end (drop (at + 2) text)) refl e
    where
      by : (o : Option ℕ) → through_line_end (drop (at + 2) text) ≡ o → Some stops ≡ option_map (λ n. (at + 2) + n) o → BeginsPiece jsonc (drop at text) sort.Line (end - at)
      by None is f = cc
      by (Some m) is f =
          let there : stops ≡ (at + 2) + m = cc in
          let size : suc (suc m) ≡ stops - at = omega (arith, there) in
          line_by second end stops
          (subst (λ n. BeginsPiece jsonc (drop at text) sort.Line (length (trimmed (take n (drop at text))))) size
          (subst (λ l. BeginsPiece jsonc l sort.Line (length (trimmed (take (suc (suc m)) l)))) (sym (after-mark text at slash first second)) (ended-line (drop (at + 2) text) m is)))
          same h

  pub last-at : slice_get text (at + 1) ≡ Some slash → (end : ℕ) → None ≡ option_map (λ n. (at + 2) + n) (through_line_end (drop (at + 2) text)) →
      take (end - at) (drop at text) ≡ trimmed (take (length text - at) (drop at text)) → end ≤ length text → BeginsPiece jsonc (drop at text) sort.Line (end - at)
  last-at second end e same h =
      let none = option_map-none (at + 2) (through_line_end (drop (at + 2) text)) e in
      let all : take (length text - at) (drop at text) ≡ drop at text = take_rest text at in
      line_by second end (length text)
      (subst (λ l. BeginsPiece jsonc (drop at text) sort.Line (length (trimmed l))) (sym all)
      (subst (λ l. BeginsPiece jsonc l sort.Line (length (trimmed l))) (sym (after-mark text at slash first second)) (last-line (drop (at + 2) text) none)))
      same h

-- Where no comment is closed after a slash, no token is cut.
slash-cut : (mode : Mode) (at : ℕ) (rest : List ℕ) (t : Token) → cut_here mode at (slash ∷ rest) ≡ token t → ⊥
unfolding cut_here start_of
slash-cut plain at rest t e = cc
slash-cut jsonc at [] t e = cc
slash-cut jsonc at (b ∷ rest) t e = by (b == star) e
  where
    by : (c : Bool) → cond c (fault_at (unexpected_eof in_block_comment) at (suc (suc (length rest)))) (fault_at (unexpected_char slash) at 1) ≡ token t → ⊥
    by true f = cc
    by false f = cc

slash-none : (mode : Mode) (text : List ℕ) (at : ℕ) → slice_get text at ≡ Some slash → piece_len mode whole (slash ∷ drop (at + 1) text) ≡ 0 →
    all_tokens (pieces mode (drop at text)) ≡ true → pieces mode (drop at text) ≡ []
slash-none mode text at first e all =
    absurd (nothing-cut mode at slash (drop (at + 1) text) e (slash-cut mode at (drop (at + 1) text))
    (ap (λ l. all_tokens (pieces mode l)) (sym (drop-at_byte text at slash first)) ∙ all))

module _ (text : List ℕ) (at : ℕ) (first : slice_get text at ≡ Some slash) where
  -- Where comments may not stand.
  pub plain-none : all_tokens (pieces plain (drop at text)) ≡ true → pieces plain (drop at text) ≡ []
  plain-none = slash-none plain text at first refl

  -- In a block comment that is not closed.
  pub block-none : slice_get text (at + 1) ≡ Some star → None ≡ option_map (λ n. (at + 2) + n) (through_block_end (drop (at + 2) text)) →
      all_tokens (pieces jsonc (drop at text)) ≡ true → pieces jsonc (drop at text) ≡ []
  block-none second e =
      let none = option_map-none (at + 2) (through_block_end (drop (at + 2) text)) e in
      let two : drop (at + 1) text ≡ star ∷ drop (at + 2) text = drop-at_byte text (at + 1) star second ∙ ap (λ n. star ∷ drop n text) (omega arith) in
      slash-none jsonc text at first (ap (λ l. piece_len jsonc whole (slash ∷ l)) two ∙ ap with_mark none)

  -- Before another byte.
  pub other-none : (b : ℕ) → slice_get text (at + 1) ≡ Some b → (b == star) ≡ false → (b == slash) ≡ false →
      all_tokens (pieces jsonc (drop at text)) ≡ true → pieces jsonc (drop at text) ≡ []
  other-none b second e f =
      let none : piece_len jsonc whole (slash ∷ b ∷ drop (at + 1 + 1) text) ≡ 0 = rw (e, f) refl in
      slash-none jsonc text at first (ap (λ l. piece_len jsonc whole (slash ∷ l)) (drop-at_byte text (at + 1) b second) ∙ none)

  -- Before the end.
  pub end-none_closed : length text ≤ at + 1 → all_tokens (pieces jsonc (drop at text)) ≡ true → pieces jsonc (drop at text) ≡ []
  end-none_closed h = slash-none jsonc text at first (ap (λ l. piece_len jsonc whole (slash ∷ l)) (drop_all (at + 1) text h))
