-- What is found at an offset is the first piece of what is left there.
use Rattle.std.proofs.Common.{◌≡◌, ℕ, zero, suc, ◌-◌, ◌≤◌, ◌<◌, ◌+◌, Bool, true, false, ◌==◌, ◌||◌, List, [], ◌∷◌, ◌++◌, length, take, drop, Some, None, refl, sym, ap, ◌∙◌, subst, arith, length-append}
use Rattle.std.proofs.lemmas.Bool.{cond_both, eqb-true}
use Rattle.std.proofs.lemmas.Bool.Decides.{nat_tests}
use Rattle.std.proofs.lemmas.List.{take_at, take_all, take-append-drop}
use Rattle.facet_format.specs.Bytes.{is_space, slash, star, line_feed, left_brace, left_bracket, right_brace, right_bracket, comma, colon}
use Rattle.facet_json_token.specs.Gap.{Mode, jsonc, whole}
use Rattle.facet_json_token.specs.GapLen.{through_block_end, through_line_end, with_mark, with_line_mark, piece_len, gap_len_from}
use Rattle.facet_json_token.specs.Token.{Token}
use Rattle.facet_json_token.specs.Shape.{IsShape, object_ends, array_ends}
use Rattle.facet_json_token.specs.Cut.{Cut, nothing_left, token, fault, cut_here}
use Rattle.facet_json_token.proofs.ShapesCut.{cut_here-shape}
use Rattle.facet_json_token.proofs.ShapeIsCut.{ShapeAt, CutShape, here_shape}
use Rattle.facet_json_token.proofs.Gaps.{gap_len-none, gap_len-some}
use Rattle.facet_json_document.specs.declared.pieces.Sort.{Sort}
use Rattle.facet_json_document.specs.declared.pieces.Sort.TheVariants as sort
use Rattle.facet_json_document.specs.Pieces.{TextPiece, token_text, comment, trimmed, with_comment, pieces_from, pieces, is_comma, closes, closing_next}
use Rattle.facet_json_document.specs.Inner.Layout.{ends_number, may_follow, sort_by, is_comma_sort, piece_of, BeginsPiece, all_tokens}
use Rattle.facet_json_document.proofs.PieceSteps.{pieces-first, pieces-cut, after_cut, after_gap}
use Rattle.facet_json_document.proofs.PieceShapes.{first_of, no_gap, IsTokenText, token-here, token-elsewhere, token-piece, cut-before}
use Rattle.facet_json_document.proofs.PieceComments.{block-end, block-again, line-end, line-again, trimmed-mark, trimmed-space, comment-came}

-- ---- comments

mark-same : (l : List ℕ) → trimmed l ≡ l → trimmed (slash ∷ star ∷ l) ≡ slash ∷ star ∷ l
mark-same [] e = refl
mark-same (x ∷ l) e = rw e refl

-- A block comment.
pub block-piece : (rest : List ℕ) (m : ℕ) → through_block_end rest ≡ Some m → BeginsPiece jsonc (slash ∷ star ∷ rest) sort.Block (suc (suc m))
block-piece rest m e =
    let h = block-end rest m e in
    let all = slash ∷ star ∷ rest in
    let text = slash ∷ star ∷ take m rest in
    let size : length text ≡ suc (suc m) = ap (λ n. suc (suc n)) h.size in
    let here = comment-came (star ∷ rest) text (suc m) (ap with_mark e) (omega (arith, h.within)) (mark-same (take m rest) h.same) in
    record {
      some = omega arith;
      within = omega (arith, h.within);
      came = here.1 ∙ ap (λ n. comment text ∷ pieces jsonc (drop n all)) size;
      again = λ k ends. block-again rest k m e;
      ends = λ no k. refl;
      commas = refl;
    }

-- A line comment.
line-piece : (rest line : List ℕ) (n : ℕ) → piece_len jsonc whole (slash ∷ slash ∷ rest) ≡ suc n → suc n ≤ length (slash ∷ slash ∷ rest) →
    trimmed (take (suc n) (slash ∷ slash ∷ rest)) ≡ trimmed (slash ∷ slash ∷ line) → through_line_end line ≡ None →
    BeginsPiece jsonc (slash ∷ slash ∷ rest) sort.Line (length (trimmed (slash ∷ slash ∷ line)))
line-piece rest line n e h same none =
    let all = slash ∷ slash ∷ rest in
    let text = slash ∷ slash ∷ trimmed line in
    let mark : trimmed (slash ∷ slash ∷ line) ≡ text = trimmed-mark line in
    let here = comment-came (slash ∷ rest) text n e h (same ∙ mark) in
    let front : take (length text) all ≡ text = ap (take (length text)) here.0 ∙ take_at text _ (length text) refl in
    let size : length all ≡ length text + length (drop (length text) all) = ap length here.0 ∙ length-append text _ in
    let again : (k : List ℕ) → may_follow sort.Line k ≡ true → pieces jsonc (text ++ k) ≡ comment text ∷ pieces jsonc k =
    λ k ends. subst (λ l. pieces jsonc (l ++ k) ≡ comment l ∷ pieces jsonc k) mark (line-again line k none ends) in
    let made : BeginsPiece jsonc all sort.Line (length text) = record {
      some = omega arith;
      within = omega (arith, size);
      came = here.1 ∙ ap (λ l. comment l ∷ pieces jsonc (drop (length text) all)) (sym front);
      again = λ k ends. subst (λ l. pieces jsonc (l ++ k) ≡ comment l ∷ pieces jsonc k) (sym front) (again k ends);
      ends = λ no k. refl;
      commas = refl;
    } in
    subst (λ l. BeginsPiece jsonc all sort.Line (length l)) (sym mark) made

-- Up to a line feed.
pub ended-line : (rest : List ℕ) (m : ℕ) → through_line_end rest ≡ Some m →
    BeginsPiece jsonc (slash ∷ slash ∷ rest) sort.Line (length (trimmed (take (suc (suc m)) (slash ∷ slash ∷ rest))))
ended-line rest m e =
    let h = line-end rest m e in
    let same : trimmed (slash ∷ slash ∷ take m rest) ≡ trimmed (slash ∷ slash ∷ h.line) =
    ap (λ l. trimmed (slash ∷ slash ∷ l)) h.is ∙ trimmed-mark (h.line ++ line_feed ∷ [])
    ∙ ap (λ l. slash ∷ slash ∷ l) (trimmed-space h.line line_feed refl) ∙ sym (trimmed-mark h.line) in
    subst (λ l. BeginsPiece jsonc (slash ∷ slash ∷ rest) sort.Line (length l)) (sym same)
    (line-piece rest h.line (suc m) (ap (with_line_mark whole rest) e) (omega (arith, h.size)) same h.unended)

-- Up to the end of the text.
pub last-line : (rest : List ℕ) → through_line_end rest ≡ None →
    BeginsPiece jsonc (slash ∷ slash ∷ rest) sort.Line (length (trimmed (slash ∷ slash ∷ rest)))
last-line rest e =
    line-piece rest rest (suc (length rest)) (ap (with_line_mark whole rest) e) (omega arith)
    (ap (λ l. trimmed (slash ∷ slash ∷ l)) (take_all (length rest) rest (omega arith))) e

-- ---- tokens

-- What a token is that begins with a byte.
by-sort : (P : Sort → Type 0) (b : ℕ) → (((b == left_brace) || (b == left_bracket)) ≡ true → P sort.Opening) → (closes b ≡ true → P sort.Closing) →
    ((b == comma) ≡ true → P sort.Comma) → ((b == colon) ≡ true → P sort.Colon) → ((b == comma) ≡ false → P sort.Scalar) → P (sort_by b)
by-sort P b opening closing at_comma at_colon scalar =
    cond_both ((b == left_brace) || (b == left_bracket)) _ _ P opening
    (λ e. cond_both (closes b) _ _ P closing
    (λ f. cond_both (b == comma) _ _ P at_comma
    (λ g. cond_both (b == colon) _ _ P at_colon (λ h. scalar g))))

sort-piece : (b : ℕ) (text : List ℕ) → piece_of (sort_by b) text ≡ token_text text
sort-piece b text = by-sort (λ s. piece_of s text ≡ token_text text) b (λ e. refl) (λ e. refl) (λ e. refl) (λ e. refl) (λ e. refl)

sort-ends : (b : ℕ) (k : List ℕ) → (sort_by b ≡ sort.Scalar → ⊥) → ends_number (b ∷ k) ≡ true
sort-ends b k =
    by-sort (λ s. (s ≡ sort.Scalar → ⊥) → ends_number (b ∷ k) ≡ true) b (λ e no. grind (arith, nat_tests)) (λ e no. grind (arith, nat_tests))
    (λ e no. grind (arith, nat_tests)) (λ e no. grind (arith, nat_tests)) (λ e no. absurd (no refl))

sort-comma : (b : ℕ) → (b == comma) ≡ is_comma_sort (sort_by b)
sort-comma b =
    by-sort (λ s. (b == comma) ≡ is_comma_sort s) b (λ e. grind (arith, nat_tests)) (λ e. grind (arith, nat_tests))
    (λ e. e) (λ e. grind (arith, nat_tests)) (λ e. e)

-- A token that is cut, where no gap is.
pub token-found : (mode : Mode) (at b : ℕ) (rest : List ℕ) (t : Token) → is_space b ≡ false → (b == slash) ≡ false →
    cut_here mode at (b ∷ rest) ≡ token t → 0 < t.span.len → BeginsPiece mode (b ∷ rest) (sort_by b) t.span.len
token-found mode at b rest t e f is some =
    let all = b ∷ rest in
    let n = t.span.len in
    let here : ShapeAt at all t = subst (CutShape at all) is (here_shape mode at all) in
    let size : n ≡ suc (n - 1) = omega (arith, some) in
    let front : take n all ≡ b ∷ take (n - 1) rest = ap (λ m. take m all) size in
    let text = take n all in
    let first : sort_by (first_of text) ≡ sort_by b = ap (λ l. sort_by (first_of l)) front in
    let piece : (k : List ℕ) → token_text text ∷ pieces mode k ≡ piece_of (sort_by b) text ∷ pieces mode k =
    λ k. ap (λ p. p ∷ pieces mode k) (sym (sort-piece b text)) in
    record {
      some = some;
      within = here.within;
      came =
          ap (pieces mode) (sym (take-append-drop n all)) ∙ token-piece mode text (drop n all) (token-here mode at text (drop n all) t.kind here.shape)
          ∙ piece (drop n all);
      again = λ k ends. token-piece mode text k (cut-before mode at all k t is (ap (λ s. may_follow s k) first ∙ ends)) ∙ piece k;
      ends = λ no k. ap (λ l. ends_number (l ++ k)) front ∙ sort-ends b (take (n - 1) rest ++ k) no;
      commas = ap is_comma front ∙ sort-comma b;
    }

-- Where no token is cut at some offset, and no gap is there, not all tokens are.
pub nothing-cut : (mode : Mode) (at b : ℕ) (rest : List ℕ) → piece_len mode whole (b ∷ rest) ≡ 0 →
    ((t : Token) → cut_here mode at (b ∷ rest) ≡ token t → ⊥) → all_tokens (pieces mode (b ∷ rest)) ≡ true → ⊥
nothing-cut mode at b rest e none = by (cut_here mode 0 (b ∷ rest)) refl
  where
    by : (c : Cut) → cut_here mode 0 (b ∷ rest) ≡ c → all_tokens (pieces mode (b ∷ rest)) ≡ true → ⊥
    by nothing_left is all = let bad = ap all_tokens (sym (pieces-cut mode b rest nothing_left e is)) ∙ all in cc
    by (fault g) is all = let bad = ap all_tokens (sym (pieces-cut mode b rest (fault g) e is)) ∙ all in cc
    by (token t) is all =
        let bytes = b ∷ rest in
        let here : ShapeAt 0 bytes t = subst (CutShape 0 bytes) is (here_shape mode 0 bytes) in
        let text = take t.span.len bytes in
        let there = token-elsewhere 0 at text (drop t.span.len bytes) t.kind here.shape in
        none _ (ap (cut_here mode at) (sym (take-append-drop t.span.len bytes)) ∙ cut_here-shape mode at text (drop t.span.len bytes) there.0 there.1)

pub nothing-found : (mode : Mode) (at b : ℕ) (rest : List ℕ) → is_space b ≡ false → (b == slash) ≡ false →
    ((t : Token) → cut_here mode at (b ∷ rest) ≡ token t → ⊥) → all_tokens (pieces mode (b ∷ rest)) ≡ true → ⊥
nothing-found mode at b rest e f none = nothing-cut mode at b rest (no_gap mode b rest e f) none

-- ---- the next token

-- whether the bytes begin with a bracket that closes
abbrev pub closes_first : List ℕ → Bool
closes_first [] = false
closes_first (b ∷ bytes) = closes b

comment-passed : (text : List ℕ) (ps : List TextPiece) → closing_next (with_comment text ps) ≡ closing_next ps
comment-passed [] ps = refl
comment-passed (b ∷ text) ps = refl

closing-cut : (mode : Mode) (b : ℕ) (bytes : List ℕ) → closes b ≡ true → (t : Token) × (cut_here mode 0 (b ∷ bytes) ≡ token t)
closing-cut mode b bytes e = by (b == right_brace) refl
  where
    by : (c : Bool) → (b == right_brace) ≡ c → (t : Token) × (cut_here mode 0 (b ∷ bytes) ≡ token t)
    by true is = rw (eqb-true b right_brace is) (_, cut_here-shape mode 0 (right_brace ∷ []) bytes _ (IsShape.structural right_brace _ bytes object_ends))
    by false is =
        let other : (b == right_bracket) ≡ true = rw is at e in
        rw (eqb-true b right_bracket other) (_, cut_here-shape mode 0 (right_bracket ∷ []) bytes _ (IsShape.structural right_bracket _ bytes array_ends))

closing-text : (mode : Mode) (n b : ℕ) (bytes rest : List ℕ) (ps : List TextPiece) → IsTokenText mode (take n (b ∷ bytes)) rest →
    closing_next (token_text (take n (b ∷ bytes)) ∷ ps) ≡ closes b
closing-text mode zero b bytes rest ps t = let no = t.is in cc
closing-text mode (suc n) b bytes rest ps t = refl

not-closing : (mode : Mode) (b : ℕ) (bytes : List ℕ) → ((t : Token) → cut_here mode 0 (b ∷ bytes) ≡ token t → ⊥) → false ≡ closes b
not-closing mode b bytes none = by (closes b) refl
  where
    by : (c : Bool) → closes b ≡ c → false ≡ c
    by true e = let t = closing-cut mode b bytes e in absurd (none t.0 t.1)
    by false e = refl

closing-after : (mode : Mode) (b : ℕ) (bytes : List ℕ) (c : Cut) → cut_here mode 0 (b ∷ bytes) ≡ c →
    closing_next (after_cut mode (b ∷ bytes) bytes c) ≡ closes b
closing-after mode b bytes nothing_left is = not-closing mode b bytes (λ t other. cc)
closing-after mode b bytes (fault f) is = not-closing mode b bytes (λ t other. cc)
closing-after mode b bytes (token t) is =
    let all = b ∷ bytes in
    let here : ShapeAt 0 all t = subst (CutShape 0 all) is (here_shape mode 0 all) in
    closing-text mode t.span.len b bytes (drop t.span.len all) _ (token-here mode 0 (take t.span.len all) (drop t.span.len all) t.kind here.shape)

pub closing-first : (mode : Mode) (inside : ℕ) (bytes : List ℕ) → closing_next (pieces_from mode inside bytes) ≡ closes_first (drop (gap_len_from mode whole inside bytes) bytes)
unfolding pieces_from gap_len_from
closing-first mode zero [] = refl
closing-first mode (suc inside) [] = refl
closing-first mode (suc inside) (b ∷ bytes) = closing-first mode inside bytes
closing-first mode zero (b ∷ bytes) = by (λ n. closing-first mode n bytes) (piece_len mode whole (b ∷ bytes)) refl
  where
    by : ((n : ℕ) → closing_next (pieces_from mode n bytes) ≡ closes_first (drop (gap_len_from mode whole n bytes) bytes)) → (n : ℕ) →
        piece_len mode whole (b ∷ bytes) ≡ n →
        closing_next (pieces_from mode 0 (b ∷ bytes)) ≡ closes_first (drop (gap_len_from mode whole 0 (b ∷ bytes)) (b ∷ bytes))
    by further zero e =
        ap closing_next (pieces-cut mode b bytes _ e refl) ∙ closing-after mode b bytes _ refl
        ∙ ap (λ m. closes_first (drop m (b ∷ bytes))) (sym (gap_len-none mode whole (b ∷ bytes) e))
    by further (suc n) e =
        ap closing_next (pieces-first mode b bytes ∙ ap (after_gap mode (b ∷ bytes) bytes) e)
        ∙ comment-passed (trimmed (take (suc n) (b ∷ bytes))) (pieces_from mode n bytes) ∙ further n
        ∙ ap (λ m. closes_first (drop m (b ∷ bytes))) (sym (gap_len-some mode whole b bytes n e))
