-- Each token of a document is one.
use Rattle.std.proofs.Common.{◌≡◌, ℕ, zero, suc, ◌-◌, ◌≤◌, ◌+◌, Bool, true, false, cond, ◌==◌, ◌&&◌, Option, None, Some, List, [], ◌∷◌, length, take, drop, refl, sym, ap, ◌∙◌, subst, arith, length-drop}
use Rattle.std.proofs.lemmas.List.{take-append-drop, length-take-le}
use Rattle.facet_format.specs.Span.{stop}
use Rattle.facet_format.specs.Bytes.{is_space, slash, star}
use Rattle.facet_json_token.specs.Gap.{Mode, plain, jsonc, whole}
use Rattle.facet_json_token.specs.GapLen.{through_block_end, through_line_end, with_mark, with_line_mark, comment_len, piece_len}
use Rattle.facet_json_token.specs.Token.{Token}
use Rattle.facet_json_token.specs.Tokens.{Tokens, ended, refused, next}
use Rattle.facet_json_token.specs.TokenList.{tokens, tokens_from}
use Rattle.facet_json_token.specs.Cut.{Cut, nothing_left, token, fault, token_at, cut_here, past_gap, cut}
use Rattle.facet_json_token.proofs.CutBounds.{drop_next}
use Rattle.facet_json_token.proofs.Gaps.{gap_len-none}
use Rattle.facet_json_token.proofs.GapSteps.{past_gap-piece}
use Rattle.facet_json_token.proofs.ShapesCut.{cut_here-shape}
use Rattle.facet_json_token.proofs.ShapeIsCut.{ShapeAt, CutShape, here_shape}
use Rattle.facet_json_token.proofs.TokensSteps.{by_first, tokens_by_first}
use Rattle.facet_json_grammar.specs.Node.{Node}
use Rattle.facet_json_grammar.specs.Run.{Run, one_token, brackets, RunsInside, nothing, separator, a_run}
use Rattle.facet_json_grammar.specs.RunLaws.{last_token_of}
use Rattle.facet_json_grammar.specs.Tree.{Tree}
use Rattle.facet_json_grammar.proofs.Runs.SpelledRuns.{spelled_is_run}
use Rattle.facet_json_document.specs.Formatted.{IsOneDocument}
use Rattle.facet_json_document.specs.Inner.Layout.{all_tokens}
use Rattle.facet_json_document.specs.Pieces.{TextPiece, trimmed, with_comment, pieces_from, pieces}
use Rattle.facet_json_document.proofs.PieceSteps.{after_cut, after_gap, pieces-first}
use Rattle.facet_json_document.proofs.PieceComments.{block-end, line-end}
use Rattle.facet_json_document.proofs.PieceShapes.{IsTokenText, token-here, token-elsewhere}

-- The tokens end without a fault.
abbrev AllEnd : Tokens → Type 0
AllEnd ended = Unit {0}
AllEnd (refused f) = ⊥
AllEnd (next t ts) = AllEnd ts

mutual
  run-ends : (ts rest : Tokens) (last : Token) → Run ts last rest → AllEnd rest → AllEnd ts
  run-ends _ _ _ (one_token t rest e) h = h
  run-ends _ _ _ (brackets kind first last inner rest e inside f) h = runs-end inner (next last rest) inside h

  runs-end : (ts rest : Tokens) → RunsInside ts rest → AllEnd rest → AllEnd ts
  runs-end _ _ (nothing rest) h = h
  runs-end _ _ (separator t ts rest e more) h = runs-end ts rest more h
  runs-end _ _ (a_run ts others rest last run more) h = run-ends ts others last run (runs-end others rest more h)

comment-tokens : (text : List ℕ) (ps : List TextPiece) → all_tokens ps ≡ true → all_tokens (with_comment text ps) ≡ true
comment-tokens [] ps e = e
comment-tokens (b ∷ text) ps e = e

-- A piece of a gap is no longer than the bytes.
line-bound : (bytes : List ℕ) (o : Option ℕ) (n : ℕ) → through_line_end bytes ≡ o → with_line_mark whole bytes o ≡ suc n → suc n ≤ suc (suc (length bytes))
line-bound bytes None n is e = omega (arith, e)
line-bound bytes (Some m) n is e = omega (arith, e, (line-end bytes m is).size)

block-bound : (bytes : List ℕ) (o : Option ℕ) (n : ℕ) → through_block_end bytes ≡ o → with_mark o ≡ suc n → suc n ≤ suc (suc (length bytes))
block-bound bytes None n is e = absurd (omega (arith, e))
block-bound bytes (Some m) n is e = omega (arith, e, (block-end bytes m is).within)

comment-bound : (bytes : List ℕ) (n : ℕ) → comment_len whole bytes ≡ suc n → suc n ≤ length bytes
comment-bound [] n e = absurd (omega (arith, e))
comment-bound (a ∷ []) n e = absurd (omega (arith, e))
comment-bound (a ∷ c ∷ bytes) n e = by ((a == slash) && (c == star)) ((a == slash) && (c == slash)) e
  where
    by : (x y : Bool) → cond x (with_mark (through_block_end bytes)) (cond y (with_line_mark whole bytes (through_line_end bytes)) 0) ≡ suc n →
        suc n ≤ suc (suc (length bytes))
    by true y f = block-bound bytes _ n refl f
    by false true f = line-bound bytes _ n refl f
    by false false f = absurd (omega (arith, f))

pub piece-bound : (mode : Mode) (bytes : List ℕ) (n : ℕ) → piece_len mode whole bytes ≡ suc n → suc n ≤ length bytes
piece-bound mode [] n e = absurd (omega (arith, e))
piece-bound plain (b ∷ bytes) n e = by (is_space b) e
  where
    by : (x : Bool) → cond x 1 0 ≡ suc n → suc n ≤ suc (length bytes)
    by true f = omega (arith, f)
    by false f = absurd (omega (arith, f))
piece-bound jsonc (b ∷ bytes) n e = by (is_space b) e
  where
    by : (x : Bool) → cond x 1 (comment_len whole (b ∷ bytes)) ≡ suc n → suc n ≤ suc (length bytes)
    by true f = omega (arith, f)
    by false f = comment-bound (b ∷ bytes) n f

module _ (text : List ℕ) (mode : Mode) where
  -- Where the same is cut, the same tokens stand.
  pub tokens-same : (p q : ℕ) → cut text p mode ≡ cut text q mode → tokens_from text mode p ≡ tokens_from text mode q
  tokens-same p q e = tokens_by_first text mode p _ e ∙ sym (tokens_by_first text mode q _ refl)

  -- Where no gap stands, this is cut.
  pub cut-here : (at b : ℕ) (bytes : List ℕ) → drop at text ≡ b ∷ bytes → piece_len mode whole (b ∷ bytes) ≡ 0 →
      cut text at mode ≡ cut_here mode at (b ∷ bytes)
  unfolding cut
  cut-here at b bytes here e =
      let past : past_gap text at mode ≡ at = omega (arith, gap_len-none mode whole (drop at text) (ap (piece_len mode whole) here ∙ e)) in
      ap (λ n. cut_here mode n (drop n text)) past ∙ ap (cut_here mode at) here

  -- what is known of the pieces after so many bytes of the piece before
  abbrev EndsFrom : List ℕ → Type 0
  EndsFrom bytes = (inside at : ℕ) → drop at text ≡ bytes → at + inside ≤ length text → AllEnd (tokens_from text mode (at + inside)) →
      all_tokens (pieces_from mode inside bytes) ≡ true

  module _ (at b : ℕ) (bytes : List ℕ) (here : drop at text ≡ b ∷ bytes) (h : at ≤ length text) (further : EndsFrom bytes) where
    all : List ℕ
    all = b ∷ bytes

    left : length text ≡ at + suc (length bytes)
    left = omega (arith, length-drop at text, ap length here, h)

    past_one : drop (suc at) text ≡ bytes
    past_one = drop_next text bytes at b here

    gap-ends : (n : ℕ) → piece_len mode whole (b ∷ bytes) ≡ suc n → suc n ≤ suc (length bytes) → AllEnd (tokens_from text mode at) →
        all_tokens (with_comment (trimmed (take (suc n) (b ∷ bytes))) (pieces_from mode n bytes)) ≡ true
    unfolding cut
    gap-ends n e w ends =
        let past = past_gap-piece mode text at (suc n) (sym (ap (piece_len mode whole) here ∙ e)) (omega (arith, left, w)) in
        let same : cut text at mode ≡ cut text (at + suc n) mode = ap (λ m. cut_here mode m (drop m text)) (sym past) in
        let to : at + suc n ≡ suc at + n = omega arith in
        let there : AllEnd (tokens_from text mode (suc at + n)) =
        subst AllEnd (tokens-same at (at + suc n) same ∙ ap (tokens_from text mode) to) ends in
        comment-tokens (trimmed (take (suc n) (b ∷ bytes))) (pieces_from mode n bytes) (further n (suc at) past_one (omega (arith, left, w)) there)

    never : (c : Cut) → cut_here mode at (b ∷ bytes) ≡ c → by_first text mode c ≡ tokens_from text mode at → AllEnd (tokens_from text mode at) →
        (t : Token) × (cut_here mode at (b ∷ bytes) ≡ token t)
    never (token t) is tokens_are ends = (t, is)
    never (fault f) is tokens_are ends = absurd (subst AllEnd (sym tokens_are) ends)
    never nothing_left is tokens_are ends =
        let none : b ∷ bytes ≡ [] = subst (CutShape at (b ∷ bytes)) is (here_shape mode at (b ∷ bytes)) in cc

    some-bytes : (n : ℕ) (rest : List ℕ) → IsTokenText mode (take n (b ∷ bytes)) rest → (m : ℕ) × (n ≡ suc m)
    some-bytes zero rest t = let none = t.is in cc
    some-bytes (suc m) rest t = (m, refl)

    token-ends : piece_len mode whole (b ∷ bytes) ≡ 0 → AllEnd (tokens_from text mode at) →
        all_tokens (after_cut mode (b ∷ bytes) bytes (cut_here mode 0 (b ∷ bytes))) ≡ true
    token-ends e ends =
        let found = never (cut_here mode at (b ∷ bytes)) refl (sym (tokens_by_first text mode at _ (cut-here at b bytes here e))) ends in
        let t = found.0 in
        let n = t.span.len in
        let shape : ShapeAt at (b ∷ bytes) t = subst (CutShape at (b ∷ bytes)) found.1 (here_shape mode at (b ∷ bytes)) in
        let front = take n (b ∷ bytes) in
        let behind = drop n (b ∷ bytes) in
        let some = some-bytes n behind (token-here mode at front behind t.kind shape.shape) in
        let there = token-elsewhere at 0 front behind t.kind shape.shape in
        let size : length front ≡ n = length-take-le n (b ∷ bytes) shape.within in
        let cut_0 : cut_here mode 0 (b ∷ bytes) ≡ token_at there.0 0 n =
        ap (cut_here mode 0) (sym (take-append-drop n (b ∷ bytes))) ∙ cut_here-shape mode 0 front behind there.0 there.1 ∙ ap (token_at there.0 0) size in
        let to : stop t.span ≡ suc at + (n - 1) = omega (arith, shape.starts, some.1) in
        let ends_there : AllEnd (tokens_from text mode (suc at + (n - 1))) =
        subst (λ m. AllEnd (tokens_from text mode m)) to (subst AllEnd (tokens_by_first text mode at (token t) (cut-here at b bytes here e ∙ found.1)) ends) in
        ap (λ c. all_tokens (after_cut mode (b ∷ bytes) bytes c)) cut_0
        ∙ further (n - 1) (suc at) past_one (omega (arith, left, shape.within, some.1)) ends_there

  all-from : (bytes : List ℕ) → EndsFrom bytes
  unfolding pieces_from
  all-from [] inside at here h ends = refl
  all-from (b ∷ bytes) (suc inside) at here h ends =
      let to : at + suc inside ≡ suc at + inside = omega arith in
      all-from bytes inside (suc at) (drop_next text bytes at b here) (omega (arith, h)) (subst (λ m. AllEnd (tokens_from text mode m)) to ends)
  all-from (b ∷ bytes) zero at here h ends = by (all-from bytes) (piece_len mode whole (b ∷ bytes)) refl
    where
      there : AllEnd (tokens_from text mode at)
      there = let to : at + 0 ≡ at = omega arith in subst (λ m. AllEnd (tokens_from text mode m)) to ends

      inside : at ≤ length text
      inside = omega (arith, h)

      by : EndsFrom bytes → (n : ℕ) → piece_len mode whole (b ∷ bytes) ≡ n → all_tokens (pieces_from mode 0 (b ∷ bytes)) ≡ true
      by further zero e = ap all_tokens (pieces-first mode b bytes ∙ ap (after_gap mode (b ∷ bytes) bytes) e) ∙ token-ends at b bytes here inside further e there
      by further (suc n) e =
          ap all_tokens (pieces-first mode b bytes ∙ ap (after_gap mode (b ∷ bytes) bytes) e)
          ∙ gap-ends at b bytes here inside further n e (piece-bound mode (b ∷ bytes) n e) there

  -- Each token of one document is one.
  pub one-tokens : (root : Node) (tree : Tree) → IsOneDocument text mode root tree → all_tokens (pieces mode text) ≡ true
  one-tokens root tree d =
      let run = spelled_is_run (tokens text mode) ended root d.spells in
      all-from text 0 0 refl (omega arith) (run-ends (tokens text mode) ended (last_token_of root) run tt)
