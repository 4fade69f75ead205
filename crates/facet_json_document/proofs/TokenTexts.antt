-- The tokens of a text, where each is one, by their texts.
use Rattle.std.proofs.Common.{◌≡◌, ℕ, zero, suc, ◌-◌, ◌≤◌, ◌+◌, Bool, true, false, cond, ◌&&◌, List, [], ◌∷◌, ◌++◌, length, take, drop, refl, sym, ap, ◌∙◌, subst, arith, length-drop, take-append-drop}
use Rattle.std.proofs.lemmas.List.{length-take-le}
use Rattle.facet_format.specs.Span.{stop, span_at}
use Rattle.facet_json_token.specs.Gap.{Mode, whole}
use Rattle.facet_json_token.specs.GapLen.{piece_len}
use Rattle.facet_json_token.specs.Token.{Token}
use Rattle.facet_json_token.specs.Tokens.{Tokens, ended, next}
use Rattle.facet_json_token.specs.TokenList.{tokens_from}
use Rattle.facet_json_token.specs.Cut.{Cut, nothing_left, token, fault, cut_here, cut}
use Rattle.facet_json_token.specs.Shape.{IsShape}
use Rattle.facet_json_token.proofs.CutBounds.{drop_next}
use Rattle.facet_json_token.proofs.GapSteps.{past_gap-piece}
use Rattle.facet_json_token.proofs.ShapesCut.{cut_here-shape}
use Rattle.facet_json_token.proofs.ShapeIsCut.{ShapeAt, CutShape, here_shape}
use Rattle.facet_json_token.proofs.TokensSteps.{cut-end, tokens_by_first, tokens_from-nothing}
use Rattle.facet_json_document.specs.Inner.Layout.{all_tokens}
use Rattle.facet_json_document.specs.Pieces.{TextPiece, token_text, comment, no_token, trimmed, with_comment, pieces_from, pieces, without_trailing_commas, closing_next, closes, is_comma}
use Rattle.facet_json_document.proofs.AllTokens.{tokens-same, cut-here, piece-bound}
use Rattle.facet_json_document.proofs.PieceSteps.{after_cut, after_gap, pieces-first}
use Rattle.facet_json_document.proofs.PieceShapes.{token-elsewhere, token-here, IsTokenText}

-- ---- texts

-- the texts of the tokens among pieces
abbrev pub texts : List TextPiece → List (List ℕ)
texts [] = []
texts (no_token ∷ ps) = texts ps
texts (comment text ∷ ps) = texts ps
texts (token_text text ∷ ps) = text ∷ texts ps

-- whether the first of them is a closing bracket's
abbrev pub closing_first : List (List ℕ) → Bool
closing_first [] = false
closing_first ([] ∷ xs) = false
closing_first ((b ∷ x) ∷ xs) = closes b

-- those but for the commas before such a one
abbrev pub without : List (List ℕ) → List (List ℕ)
without [] = []
without (x ∷ xs) = cond (is_comma x && closing_first xs) (without xs) (x ∷ without xs)

first-closes : (ps : List TextPiece) → all_tokens ps ≡ true → closing_next ps ≡ closing_first (texts ps)
first-closes [] all = refl
first-closes (no_token ∷ ps) all = cc
first-closes (comment text ∷ ps) all = first-closes ps all
first-closes (token_text [] ∷ ps) all = refl
first-closes (token_text (b ∷ text) ∷ ps) all = refl

pub texts-without : (ps : List TextPiece) → all_tokens ps ≡ true → texts (without_trailing_commas ps) ≡ without (texts ps)
texts-without [] all = refl
texts-without (no_token ∷ ps) all = cc
texts-without (comment text ∷ ps) all = texts-without ps all
texts-without (token_text x ∷ ps) all =
    by (is_comma x && closing_next ps) (texts-without ps all)
    ∙ ap (λ b. cond (is_comma x && b) (without (texts ps)) (x ∷ without (texts ps))) (first-closes ps all)
  where
    by : (b : Bool) → texts (without_trailing_commas ps) ≡ without (texts ps) →
        texts (cond b (without_trailing_commas ps) (token_text x ∷ without_trailing_commas ps)) ≡ cond b (without (texts ps)) (x ∷ without (texts ps))
    by true e = e
    by false e = ap (λ xs. x ∷ xs) e

pub all-without : (ps : List TextPiece) → all_tokens ps ≡ true → all_tokens (without_trailing_commas ps) ≡ true
all-without [] all = refl
all-without (no_token ∷ ps) all = cc
all-without (comment text ∷ ps) all = all-without ps all
all-without (token_text x ∷ ps) all = by (is_comma x && closing_next ps) (all-without ps all)
  where
    by : (b : Bool) → all_tokens (without_trailing_commas ps) ≡ true →
        all_tokens (cond b (without_trailing_commas ps) (token_text x ∷ without_trailing_commas ps)) ≡ true
    by true e = e
    by false e = e

-- ---- tokens

-- The token stands there, with this text.
pub record HasText (text : List ℕ) (t : Token) (x : List ℕ) : Type 0 where
  pub at : ℕ
  pub rest : List ℕ
  pub shape : IsShape at x rest t.kind
  pub stands : drop at text ≡ x ++ rest

-- The tokens have these texts, and end without a fault.
pub data HaveTexts (text : List ℕ) : Tokens → List (List ℕ) → Type 0 where
  no_texts : HaveTexts text ended []
  a_text : (t : Token) (ts : Tokens) (x : List ℕ) (xs : List (List ℕ)) → HasText text t x → HaveTexts text ts xs →
      HaveTexts text (next t ts) (x ∷ xs)

texts-comment : (x : List ℕ) (ps : List TextPiece) → texts (with_comment x ps) ≡ texts ps
texts-comment [] ps = refl
texts-comment (b ∷ x) ps = refl

all-comment : (x : List ℕ) (ps : List TextPiece) → all_tokens (with_comment x ps) ≡ true → all_tokens ps ≡ true
all-comment [] ps e = e
all-comment (b ∷ x) ps e = e

module _ (text : List ℕ) (mode : Mode) where
  -- what is known of the tokens after so many bytes of the piece before
  abbrev TextsFrom : List ℕ → Type 0
  TextsFrom bytes = (inside at : ℕ) → drop at text ≡ bytes → at + inside ≤ length text → all_tokens (pieces_from mode inside bytes) ≡ true →
      HaveTexts text (tokens_from text mode (at + inside)) (texts (pieces_from mode inside bytes))

  module _ (at b : ℕ) (bytes : List ℕ) (here : drop at text ≡ b ∷ bytes) (h : at ≤ length text) (further : TextsFrom bytes) where
    left : length text ≡ at + suc (length bytes)
    left = omega (arith, length-drop at text, ap length here, h)

    past_one : drop (suc at) text ≡ bytes
    past_one = drop_next text bytes at b here

    gap-texts : (n : ℕ) → piece_len mode whole (b ∷ bytes) ≡ suc n → suc n ≤ suc (length bytes) →
        all_tokens (with_comment (trimmed (take (suc n) (b ∷ bytes))) (pieces_from mode n bytes)) ≡ true →
        HaveTexts text (tokens_from text mode at) (texts (with_comment (trimmed (take (suc n) (b ∷ bytes))) (pieces_from mode n bytes)))
    unfolding cut
    gap-texts n e w all =
        let past = past_gap-piece mode text at (suc n) (sym (ap (piece_len mode whole) here ∙ e)) (omega (arith, left, w)) in
        let same : cut text at mode ≡ cut text (at + suc n) mode = ap (λ m. cut_here mode m (drop m text)) (sym past) in
        let to : at + suc n ≡ suc at + n = omega arith in
        let x = trimmed (take (suc n) (b ∷ bytes)) in
        let there = further n (suc at) past_one (omega (arith, left, w)) (all-comment x (pieces_from mode n bytes) all) in
        let tokens_are : tokens_from text mode (suc at + n) ≡ tokens_from text mode at =
        sym (tokens-same text mode at (at + suc n) same ∙ ap (tokens_from text mode) to) in
        subst (HaveTexts text (tokens_from text mode at)) (sym (texts-comment x (pieces_from mode n bytes)))
        (subst (λ ts. HaveTexts text ts (texts (pieces_from mode n bytes))) tokens_are there)

    cut-texts : (c : Cut) → cut_here mode 0 (b ∷ bytes) ≡ c → piece_len mode whole (b ∷ bytes) ≡ 0 →
        all_tokens (after_cut mode (b ∷ bytes) bytes c) ≡ true →
        HaveTexts text (tokens_from text mode at) (texts (after_cut mode (b ∷ bytes) bytes c))
    cut-texts (fault f) is e all = cc
    cut-texts nothing_left is e all = cc
    cut-texts (token t) is e all =
        let n = t.span.len in
        let shape : ShapeAt 0 (b ∷ bytes) t = subst (CutShape 0 (b ∷ bytes)) is (here_shape mode 0 (b ∷ bytes)) in
        let front = take n (b ∷ bytes) in
        let behind = drop n (b ∷ bytes) in
        let there = token-elsewhere 0 at front behind t.kind shape.shape in
        let size : length front ≡ n = length-take-le n (b ∷ bytes) shape.within in
        let parts : front ++ behind ≡ b ∷ bytes = take-append-drop n (b ∷ bytes) in
        let u : Token = record { kind = there.0; span = span_at at (length front) } in
        let found : cut text at mode ≡ token u =
        cut-here text mode at b bytes here e ∙ ap (cut_here mode at) (sym parts) ∙ cut_here-shape mode at front behind there.0 there.1 in
        let some = some-bytes n behind (token-here mode 0 front behind t.kind shape.shape) in
        let to : stop u.span ≡ suc at + (n - 1) = omega (arith, size, some.1) in
        let others = further (n - 1) (suc at) past_one (omega (arith, left, shape.within, some.1)) all in
        let more = subst (λ m. HaveTexts text (tokens_from text mode m) (texts (pieces_from mode (n - 1) bytes))) (sym to) others in
        let one : HasText text u front = record { at = at; rest = behind; shape = there.1; stands = here ∙ sym parts } in
        subst (λ ts. HaveTexts text ts (front ∷ texts (pieces_from mode (n - 1) bytes))) (sym (tokens_by_first text mode at (token u) found))
        (a_text u (tokens_from text mode (stop u.span)) front (texts (pieces_from mode (n - 1) bytes)) one more)
      where
        some-bytes : (n : ℕ) (rest : List ℕ) → IsTokenText mode (take n (b ∷ bytes)) rest → (m : ℕ) × (n ≡ suc m)
        some-bytes zero rest t = let none = t.is in cc
        some-bytes (suc m) rest t = (m, refl)

  texts-from : (bytes : List ℕ) → TextsFrom bytes
  unfolding pieces_from
  texts-from [] inside at here h all =
      let ends : length text ≤ at + inside = omega (arith, length-drop at text, ap length here) in
      subst (λ ts. HaveTexts text ts []) (sym (tokens_from-nothing text (at + inside) mode (cut-end text (at + inside) mode ends))) no_texts
  texts-from (b ∷ bytes) (suc inside) at here h all =
      let to : suc at + inside ≡ at + suc inside = omega arith in
      subst (λ m. HaveTexts text (tokens_from text mode m) (texts (pieces_from mode inside bytes))) to
      (texts-from bytes inside (suc at) (drop_next text bytes at b here) (omega (arith, h)) all)
  texts-from (b ∷ bytes) zero at here h all = by (texts-from bytes) (piece_len mode whole (b ∷ bytes)) refl
    where
      inside : at ≤ length text
      inside = omega (arith, h)

      to : at ≡ at + 0
      to = omega arith

      by : TextsFrom bytes → (n : ℕ) → piece_len mode whole (b ∷ bytes) ≡ n →
          HaveTexts text (tokens_from text mode (at + 0)) (texts (pieces_from mode 0 (b ∷ bytes)))
      by further zero e =
          let are : pieces_from mode 0 (b ∷ bytes) ≡ after_cut mode (b ∷ bytes) bytes (cut_here mode 0 (b ∷ bytes)) =
          pieces-first mode b bytes ∙ ap (after_gap mode (b ∷ bytes) bytes) e in
          let all_there = subst (λ ps. all_tokens ps ≡ true) are all in
          subst (λ m. HaveTexts text (tokens_from text mode m) (texts (pieces_from mode 0 (b ∷ bytes)))) to
          (subst (λ ps. HaveTexts text (tokens_from text mode at) (texts ps)) (sym are)
          (cut-texts at b bytes here inside further (cut_here mode 0 (b ∷ bytes)) refl e all_there))
      by further (suc n) e =
          let are : pieces_from mode 0 (b ∷ bytes) ≡ with_comment (trimmed (take (suc n) (b ∷ bytes))) (pieces_from mode n bytes) =
          pieces-first mode b bytes ∙ ap (after_gap mode (b ∷ bytes) bytes) e in
          let all_there = subst (λ ps. all_tokens ps ≡ true) are all in
          subst (λ m. HaveTexts text (tokens_from text mode m) (texts (pieces_from mode 0 (b ∷ bytes)))) to
          (subst (λ ps. HaveTexts text (tokens_from text mode at) (texts ps)) (sym are)
          (gap-texts at b bytes here inside further n e (piece-bound mode (b ∷ bytes) n e) all_there))

  -- Where each token is one, all of them have their texts.
  pub tokens-have : all_tokens (pieces mode text) ≡ true → HaveTexts text (tokens_from text mode 0) (texts (pieces mode text))
  tokens-have all = texts-from text 0 0 refl (omega arith) all
