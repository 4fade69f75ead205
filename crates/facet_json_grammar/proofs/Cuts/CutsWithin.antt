-- A token that is cut of a buffer is cut of each part of the buffer that goes on to the token's end: there it stands further to the front.
use Rattle.std.proofs.Common.{◌≡◌, ℕ, zero, suc, ◌+◌, ◌-◌, ◌≤◌, ◌<◌, Bool, true, false, cond, ◌==◌, ◌&&◌, List, [], ◌∷◌, length, take, drop, Option, Some, None, refl, sym, ap, ap₂, ◌∙◌, subst, arith, length-drop}
use Rattle.std.specs.List.{list_any}
use Rattle.std.proofs.lemmas.List.{drop-drop, drop-take, take_all}
use Rattle.facet_format.specs.Bytes.{is_space, slash, star, quote, backslash, line_feed}
use Rattle.facet_format.specs.Number.{Hint}
use Rattle.facet_format.specs.NumberParts.{parts, parts_len, parts_hint, is_bare}
use Rattle.facet_format.specs.Span.{stop}
use Rattle.facet_format.proofs.NumberPrefixes.{parts-take}
use Rattle.facet_json_token.specs.Cut.{Cut, nothing_left, token, fault, Start, start_of, token_at, fault_at, common_len, cut_word, content_len, cut_text, cut_number, cut_slash, cut_by, cut_here, past_gap, cut}
use Rattle.facet_json_token.specs.Shape.{object_starts, object_ends, array_starts, array_ends, colon_stands, comma_stands, IsLiteral, null_stands, true_stands, false_stands}
use Rattle.facet_json_token.specs.Gap.{Mode, plain, jsonc, whole}
use Rattle.facet_json_token.specs.GapLen.{one_more, through_block_end, through_line_end, with_mark, with_line_mark, comment_len, piece_len, gap_len_from, gap_len}
use Rattle.facet_json_token.specs.Token.{Kind, Token, string, number, unexpected_char, unexpected_eof, in_block_comment}
use Rattle.facet_json_token.proofs.CutBounds.{TokenFits, CutFits, here_fits, past_gap-bound}
use Rattle.facet_json_token.proofs.FirstBytes.{cut_word-is}
use Rattle.facet_json_token.proofs.Gaps.{gap_len-none, gap_len-some, gap_len-ends}
use Rattle.facet_json_token.proofs.NumberCuts.{bare_minus-no_token}
use Rattle.facet_json_token.proofs.Starts.{number_byte, Begins, a_mark, a_word, a_text, a_number, a_comment, no_token, start_of-begins}
use Rattle.facet_json_grammar.proofs.Cuts.CutsBefore.{structural-stays, literal-stays, cut_word-whole}
use Rattle.facet_json_grammar.proofs.Cuts.MovedTokens.{moved}

-- ---- gaps

-- One number is there.
some-inj : (n m : ℕ) → Some n ≡ Some m → n ≡ m
some-inj n m e = ap (λ o. elim o as (λ _. ℕ) [ None ↦ 0 | Some x ↦ x ]) e

-- What is one more than something is one more than a number.
one_more-some : (o : Option ℕ) (m : ℕ) → one_more o ≡ Some m → (j : ℕ) × (o ≡ Some j) × (m ≡ suc j)
one_more-some None m e = cc
one_more-some (Some j) m e = (j, refl, sym (some-inj (suc j) m e))

-- A block comment's end is found in the first bytes that reach to it.
block-within : (bytes : List ℕ) (m k : ℕ) → through_block_end bytes ≡ Some m → m ≤ k → through_block_end (take k bytes) ≡ Some m
block-within [] m k e h = cc
block-within (b ∷ []) m k e h = cc
block-within (b ∷ c ∷ bytes) m k e h = by (λ j i. block-within (c ∷ bytes) j i) ((b == star) && (c == slash)) refl k e h
  where
    by : ((j i : ℕ) → through_block_end (c ∷ bytes) ≡ Some j → j ≤ i → through_block_end (take i (c ∷ bytes)) ≡ Some j) → (t : Bool) →
        (b == star) && (c == slash) ≡ t → (k : ℕ) → cond t (Some 2) (one_more (through_block_end (c ∷ bytes))) ≡ Some m → m ≤ k →
        through_block_end (take k (b ∷ c ∷ bytes)) ≡ Some m
    by further true same (suc (suc k)) e h = rw same e
    by further true same (suc zero) e h = absurd (omega (arith, some-inj 2 m e))
    by further true same zero e h = absurd (omega (arith, some-inj 2 m e))
    by further false same (suc (suc k)) e h =
        let p = one_more-some (through_block_end (c ∷ bytes)) m e in
        let found : through_block_end (take (suc k) (c ∷ bytes)) ≡ Some p.0 = further p.0 (suc k) p.1 (omega (arith, p.2)) in
        rw same (ap one_more found ∙ ap Some (sym p.2))
    by further false same (suc zero) e h =
        let p = one_more-some (through_block_end (c ∷ bytes)) m e in
        let found : through_block_end [] ≡ Some p.0 = further p.0 0 p.1 (omega (arith, p.2)) in
        cc
    by further false same zero e h =
        let p = one_more-some (through_block_end (c ∷ bytes)) m e in
        absurd (omega (arith, p.2))

-- So is a line's.
line-within : (bytes : List ℕ) (m k : ℕ) → through_line_end bytes ≡ Some m → m ≤ k → through_line_end (take k bytes) ≡ Some m
line-within [] m k e h = cc
line-within (b ∷ bytes) m k e h = by (λ j i. line-within bytes j i) (b == line_feed) refl k e h
  where
    by : ((j i : ℕ) → through_line_end bytes ≡ Some j → j ≤ i → through_line_end (take i bytes) ≡ Some j) → (t : Bool) →
        (b == line_feed) ≡ t → (k : ℕ) → cond t (Some 1) (one_more (through_line_end bytes)) ≡ Some m → m ≤ k →
        through_line_end (take k (b ∷ bytes)) ≡ Some m
    by further true same (suc k) e h = rw same e
    by further true same zero e h = absurd (omega (arith, some-inj 1 m e))
    by further false same (suc k) e h =
        let p = one_more-some (through_line_end bytes) m e in
        rw same (ap one_more (further p.0 k p.1 (omega (arith, p.2))) ∙ ap Some (sym p.2))
    by further false same zero e h =
        let p = one_more-some (through_line_end bytes) m e in
        absurd (omega (arith, p.2))

-- The mark of a block comment.
mark-within : (o p : Option ℕ) (n k : ℕ) → ((m : ℕ) → o ≡ Some m → m ≤ k → p ≡ Some m) → with_mark o ≡ suc n → suc n ≤ suc (suc k) →
    with_mark p ≡ suc n
mark-within None p n k found e h = absurd (omega arith)
mark-within (Some m) p n k found e h = ap with_mark (found m refl (omega arith)) ∙ e

-- The mark of a line comment, which the end of the bytes ends too.
line_mark-within : (bytes : List ℕ) (o : Option ℕ) (n k : ℕ) → through_line_end bytes ≡ o → with_line_mark whole bytes o ≡ suc n →
    suc n < suc (suc k) → with_line_mark whole (take k bytes) (through_line_end (take k bytes)) ≡ suc n
line_mark-within bytes None n k same e h =
    let all : take k bytes ≡ bytes = take_all k bytes (omega arith) in
    ap (λ l. with_line_mark whole l (through_line_end l)) all ∙ ap (with_line_mark whole bytes) same ∙ e
line_mark-within bytes (Some m) n k same e h =
    ap (with_line_mark whole (take k bytes)) (line-within bytes m k same (omega arith)) ∙ e

-- A piece of a gap is one in the first bytes that go beyond it.
piece-within : (bytes : List ℕ) (n k : ℕ) → piece_len jsonc whole bytes ≡ suc n → suc n < k → piece_len jsonc whole (take k bytes) ≡ suc n
piece-within [] n k e h = absurd (omega arith)
piece-within (a ∷ bytes) n zero e h = absurd (omega arith)
piece-within (a ∷ bytes) n (suc k) e h = blank (is_space a) refl bytes k e h
  where
    comment : (bytes : List ℕ) (k : ℕ) → comment_len whole (a ∷ bytes) ≡ suc n → suc n < suc k → comment_len whole (a ∷ take k bytes) ≡ suc n
    comment [] k e h = absurd (omega arith)
    comment (b ∷ bytes) zero e h = absurd (omega arith)
    comment (b ∷ bytes) (suc k) e h = by ((a == slash) && (b == star)) ((a == slash) && (b == slash)) e
      where
        by : (s t : Bool) →
            cond s (with_mark (through_block_end bytes)) (cond t (with_line_mark whole bytes (through_line_end bytes)) 0) ≡ suc n →
            cond s (with_mark (through_block_end (take k bytes))) (cond t (with_line_mark whole (take k bytes) (through_line_end (take k bytes))) 0) ≡ suc n
        by true t e =
            mark-within (through_block_end bytes) (through_block_end (take k bytes)) n k (λ m. block-within bytes m k) e (omega arith)
        by false true e = line_mark-within bytes (through_line_end bytes) n k refl e h
        by false false e = absurd (omega arith)

    blank : (t : Bool) → is_space a ≡ t → (bytes : List ℕ) (k : ℕ) → cond t 1 (comment_len whole (a ∷ bytes)) ≡ suc n → suc n < suc k →
        piece_len jsonc whole (a ∷ take k bytes) ≡ suc n
    blank true same bytes k e h = rw same e
    blank false same bytes k e h = rw same (comment bytes k e h)

-- A byte stands first that begins no piece of a gap.
abbrev pub NoGap : List ℕ → Type 0
NoGap [] = ⊥
NoGap (b ∷ bytes) = (is_space b ≡ false) × ((b == slash) ≡ false)

-- No piece stands there, whatever follows.
no_piece : (b : ℕ) (bytes : List ℕ) → is_space b ≡ false → (b == slash) ≡ false → piece_len jsonc whole (b ∷ bytes) ≡ 0
no_piece b [] blank mark = rw blank refl
no_piece b (c ∷ bytes) blank mark = rw (blank, mark) refl

-- Where such a byte stands after the gap, the rest of a piece is within the gap.
inside-within : (inside : ℕ) (bytes : List ℕ) → NoGap (drop (gap_len_from jsonc whole inside bytes) bytes) →
    inside ≤ gap_len_from jsonc whole inside bytes
unfolding gap_len_from
inside-within inside [] h = absurd h
inside-within zero (b ∷ bytes) h = omega arith
inside-within (suc inside) (b ∷ bytes) h = omega (arith, inside-within inside bytes h)

-- The gap is the same in the first bytes that go beyond it, where a byte stands after it that begins no piece.
gap_from-within : (inside k : ℕ) (bytes : List ℕ) → gap_len_from jsonc whole inside bytes < k →
    NoGap (drop (gap_len_from jsonc whole inside bytes) bytes) →
    gap_len_from jsonc whole inside (take k bytes) ≡ gap_len_from jsonc whole inside bytes
unfolding gap_len_from
gap_from-within inside k [] h stops = absurd stops
gap_from-within inside zero (b ∷ bytes) h stops = absurd (omega arith)
gap_from-within (suc inside) (suc k) (b ∷ bytes) h stops = ap suc (gap_from-within inside k bytes (omega arith) stops)
gap_from-within zero (suc k) (b ∷ bytes) h stops =
    by (λ n. gap_from-within n k bytes) (piece_len jsonc whole (b ∷ bytes)) refl h stops
  where
    by : ((n : ℕ) → gap_len_from jsonc whole n bytes < k → NoGap (drop (gap_len_from jsonc whole n bytes) bytes) →
        gap_len_from jsonc whole n (take k bytes) ≡ gap_len_from jsonc whole n bytes) →
        (n : ℕ) → piece_len jsonc whole (b ∷ bytes) ≡ n → gap_len jsonc whole (b ∷ bytes) < suc k →
        NoGap (drop (gap_len jsonc whole (b ∷ bytes)) (b ∷ bytes)) →
        gap_len jsonc whole (b ∷ take k bytes) ≡ gap_len jsonc whole (b ∷ bytes)
    by further zero e h stops =
        let none : gap_len jsonc whole (b ∷ bytes) ≡ 0 = gap_len-none jsonc whole (b ∷ bytes) e in
        let here : NoGap (b ∷ bytes) = subst (λ g. NoGap (drop g (b ∷ bytes))) none stops in
        gap_len-none jsonc whole (b ∷ take k bytes) (no_piece b (take k bytes) here.0 here.1) ∙ sym none
    by further (suc n) e h stops =
        let some : gap_len jsonc whole (b ∷ bytes) ≡ suc (gap_len_from jsonc whole n bytes) = gap_len-some jsonc whole b bytes n e in
        let after : NoGap (drop (gap_len_from jsonc whole n bytes) bytes) = subst (λ g. NoGap (drop g (b ∷ bytes))) some stops in
        let piece : piece_len jsonc whole (b ∷ take k bytes) ≡ suc n =
        piece-within (b ∷ bytes) n (suc k) e (omega (arith, some, inside-within n bytes after)) in
        gap_len-some jsonc whole b (take k bytes) n piece ∙ ap suc (further n (omega (arith, some)) after) ∙ sym some

-- ---- tokens

-- The token stands n bytes later than one that is cut of the other bytes.
pub record IsCutWithin (n : ℕ) (t : Token) (c : Cut) : Type 0 where
  pub here : Token
  pub same : t ≡ moved n here
  pub is_cut : c ≡ token here

token-inj : (t u : Token) → token t ≡ token u → t ≡ u
token-inj t u e = ap (λ c. elim c as (λ _. Token) [ nothing_left ↦ t | token x ↦ x | fault f ↦ t ]) e

-- A word that is all there is all in the first bytes that are no fewer.
common_len-within : (word bytes : List ℕ) (k : ℕ) → common_len word bytes ≡ length word → length word ≤ k →
    common_len word (take k bytes) ≡ length word
common_len-within [] bytes k e h = refl
common_len-within (w ∷ word) [] k e h = absurd (omega arith)
common_len-within (w ∷ word) (b ∷ bytes) zero e h = absurd (omega arith)
common_len-within (w ∷ word) (b ∷ bytes) (suc k) e h = at (b == w) (λ x. common_len-within word bytes k x (omega arith)) e
  where
    at : (t : Bool) → (common_len word bytes ≡ length word → common_len word (take k bytes) ≡ length word) →
        cond t (suc (common_len word bytes)) 0 ≡ suc (length word) →
        cond t (suc (common_len word (take k bytes))) 0 ≡ suc (length word)
    at true f e = ap suc (f (omega arith))
    at false f e = absurd (omega arith)

-- Content is measured alike in the first bytes that go beyond it.
content_len-within : (escaped : Bool) (bytes : List ℕ) (m k : ℕ) → content_len escaped bytes ≡ Some m → m < k →
    content_len escaped (take k bytes) ≡ Some m
content_len-within true [] m k e h = cc
content_len-within false [] m k e h = cc
content_len-within true (b ∷ bytes) m zero e h = absurd (omega arith)
content_len-within false (b ∷ bytes) m zero e h = absurd (omega arith)
content_len-within true (b ∷ bytes) m (suc k) e h =
    let p = one_more-some (content_len false bytes) m e in
    ap one_more (content_len-within false bytes p.0 k p.1 (omega (arith, p.2))) ∙ ap Some (sym p.2)
content_len-within false (b ∷ bytes) m (suc k) e h = at (λ j. content_len-within (b == backslash) bytes j k) (b == quote) e
  where
    at : ((j : ℕ) → content_len (b == backslash) bytes ≡ Some j → j < k → content_len (b == backslash) (take k bytes) ≡ Some j) → (t : Bool) →
        cond t (Some 0) (one_more (content_len (b == backslash) bytes)) ≡ Some m →
        cond t (Some 0) (one_more (content_len (b == backslash) (take k bytes))) ≡ Some m
    at further true e = e
    at further false e =
        let p = one_more-some (content_len (b == backslash) bytes) m e in
        ap one_more (further p.0 p.1 (omega (arith, p.2))) ∙ ap Some (sym p.2)

-- The first of the first bytes.
take-take-le : (n k : ℕ) (bytes : List ℕ) → n ≤ k → take n (take k bytes) ≡ take n bytes
take-take-le zero k bytes h = refl
take-take-le (suc n) zero bytes h = absurd (omega arith)
take-take-le (suc n) (suc k) [] h = refl
take-take-le (suc n) (suc k) (b ∷ bytes) h = ap (λ l. b ∷ l) (take-take-le n k bytes (omega arith))

text-within : (n at k : ℕ) (bytes : List ℕ) (t : Token) (found : Option ℕ) → content_len false bytes ≡ found →
    cut_text (n + at) bytes found ≡ token t → stop t.span ≤ n + at + suc k →
    IsCutWithin n t (cut_text at (take k bytes) (content_len false (take k bytes)))
text-within n at k bytes t None same e h = cc
text-within n at k bytes t (Some m) same e h =
    let is = token-inj _ t e in
    let within : n + at + suc (suc m) ≤ n + at + suc k = subst (λ x. stop x.span ≤ n + at + suc k) (sym is) h in
    let start : suc (n + at) ≡ n + suc at = omega arith in
    let finish : suc (n + at) + m ≡ n + (suc at + m) = omega arith in
    let mark = list_any (λ b. b == backslash) (take m bytes) in
    record {
      here = record { kind = string (suc at) (suc at + m) mark; span = record { offset = at; len = suc (suc m) } };
      same = sym is ∙ ap₂ (λ s f. record { kind = string s f mark; span = record { offset = n + at; len = suc (suc m) } }) start finish;
      is_cut =
          ap (cut_text at (take k bytes)) (content_len-within false bytes m k same (omega (arith, within)))
          ∙ ap (λ l. token_at (string (suc at) (suc at + m) (list_any (λ b. b == backslash) l)) at (suc (suc m)))
          (take-take-le m k bytes (omega (arith, within)));
    }

word-within : (n at k : ℕ) (bytes word : List ℕ) (kind : Kind) (t : Token) → IsLiteral word kind →
    cut_word (n + at) bytes word kind (common_len word bytes) ≡ token t → stop t.span ≤ n + at + k →
    IsCutWithin n t (cut_word at (take k bytes) word kind (common_len word (take k bytes)))
word-within n at k bytes word kind t l e h =
    let all = cut_word-whole (n + at) bytes word kind (common_len word bytes) t e in
    let is = token-inj _ t (sym (cut_word-is (n + at) bytes word kind (common_len word bytes) all) ∙ e) in
    let within : n + at + length word ≤ n + at + k = subst (λ x. stop x.span ≤ n + at + k) (sym is) h in
    record {
      here = record { kind = kind; span = record { offset = at; len = length word } };
      same = sym is ∙ ap (λ x. record { kind = x; span = record { offset = n + at; len = length word } }) (sym (literal-stays n word kind l));
      is_cut = cut_word-is at (take k bytes) word kind _ (common_len-within word bytes k all (omega (arith, within)));
    }

-- A number of this length is cut alike of whatever bytes.
number-within : (n at k : ℕ) (bytes others : List ℕ) (len : ℕ) (hint : Hint) (bare : Bool) (t : Token) →
    cut_number (n + at) bytes len hint bare ≡ token t → stop t.span ≤ n + at + k →
    (len ≤ k) × IsCutWithin n t (cut_number at others len hint bare)
number-within n at k bytes others len hint true t e h = absurd (bare_minus-no_token (n + at) bytes t e)
number-within n at k bytes others len hint false t e h =
    let is = token-inj _ t e in
    let within : n + at + len ≤ n + at + k = subst (λ x. stop x.span ≤ n + at + k) (sym is) h in
    let finish : n + at + len ≡ n + (at + len) = omega arith in (
      omega (arith, within),
      record {
        here = record { kind = number at (at + len) hint; span = record { offset = at; len = len } };
        same = sym is ∙ ap (λ f. record { kind = number (n + at) f hint; span = record { offset = n + at; len = len } }) finish;
        is_cut = refl;
      },
    )

slash-no_token : (at : ℕ) (bytes : List ℕ) (t : Token) → cut_slash jsonc at bytes ≡ token t → ⊥
slash-no_token at [] t e = cc
slash-no_token at (b ∷ bytes) t e = by (b == star) e
  where
    by : (s : Bool) →
        cond s (fault_at (unexpected_eof in_block_comment) at (suc (suc (length bytes)))) (fault_at (unexpected_char slash) at 1) ≡ token t → ⊥
    by true e = cc
    by false e = cc

by-within : (n at b k : ℕ) (bytes : List ℕ) (start : Start) (t : Token) → Begins b start → cut_by start jsonc (n + at) b bytes ≡ token t →
    stop t.span ≤ n + at + suc k → IsCutWithin n t (cut_by start jsonc at b (take k bytes))
by-within n at b k bytes _ t (a_mark _ kind m) e h =
    record {
      here = record { kind = kind; span = record { offset = at; len = 1 } };
      same = sym (token-inj _ t e) ∙ ap (λ x. record { kind = x; span = record { offset = n + at; len = 1 } }) (sym (structural-stays n b kind m));
      is_cut = refl;
    }
by-within n at b k bytes _ t (a_word _ letters kind l) e h = word-within n at (suc k) (b ∷ bytes) (b ∷ letters) kind t l e h
by-within n at b k bytes _ t a_text e h = text-within n at k bytes t (content_len false bytes) refl e h
by-within n at b k bytes _ t (a_number _ s) e h =
    let p = parts (b ∷ bytes) in
    let all = number-within n at (suc k) bytes (take k bytes) (parts_len p) (parts_hint p) (is_bare p) t e h in
    let stays : parts (b ∷ take k bytes) ≡ p = parts-take (suc k) (b ∷ bytes) all.0 in
    rw stays all.1
by-within n at b k bytes _ t a_comment e h = absurd (slash-no_token (n + at) bytes t e)
by-within n at b k bytes _ t (no_token _ s) e h = cc

-- What is cut of these bytes is cut of the first of them that reach to its end, with no gap before it.
pub record HereWithin (n at k : ℕ) (bytes : List ℕ) (t : Token) : Type 0 where
  pub cut : IsCutWithin n t (cut_here jsonc at (take k bytes))
  pub no_gap : NoGap bytes

begins-no_slash : (b : ℕ) (start : Start) (at : ℕ) (bytes : List ℕ) (t : Token) → Begins b start → cut_by start jsonc at b bytes ≡ token t →
    (b == slash) ≡ false
begins-no_slash b _ at bytes t (a_mark _ _ object_starts) e = refl
begins-no_slash b _ at bytes t (a_mark _ _ object_ends) e = refl
begins-no_slash b _ at bytes t (a_mark _ _ array_starts) e = refl
begins-no_slash b _ at bytes t (a_mark _ _ array_ends) e = refl
begins-no_slash b _ at bytes t (a_mark _ _ colon_stands) e = refl
begins-no_slash b _ at bytes t (a_mark _ _ comma_stands) e = refl
begins-no_slash b _ at bytes t (a_word _ _ _ null_stands) e = refl
begins-no_slash b _ at bytes t (a_word _ _ _ true_stands) e = refl
begins-no_slash b _ at bytes t (a_word _ _ _ false_stands) e = refl
begins-no_slash b _ at bytes t a_text e = refl
begins-no_slash b _ at bytes t (a_number _ s) e = (number_byte b s).1
begins-no_slash b _ at bytes t a_comment e = absurd (slash-no_token at bytes t e)
begins-no_slash b _ at bytes t (no_token _ s) e = cc

-- Where no piece stands, no space does.
no_piece-no_space : (b : ℕ) (bytes : List ℕ) → piece_len jsonc whole (b ∷ bytes) ≡ 0 → is_space b ≡ false
no_piece-no_space b bytes e = by (is_space b) refl e
  where
    by : (t : Bool) → is_space b ≡ t → cond t 1 (comment_len whole (b ∷ bytes)) ≡ 0 → is_space b ≡ false
    by true same e = absurd (omega arith)
    by false same e = same

here-within : (n at k : ℕ) (bytes : List ℕ) (t : Token) → piece_len jsonc whole bytes ≡ 0 → cut_here jsonc (n + at) bytes ≡ token t →
    n + at < stop t.span → stop t.span ≤ n + at + k → HereWithin n at k bytes t
unfolding cut_here
here-within n at k [] t none e some h = cc
here-within n at zero (b ∷ bytes) t none e some h = absurd (omega arith)
here-within n at (suc k) (b ∷ bytes) t none e some h = record {
  cut = by-within n at b k bytes (start_of b) t (start_of-begins b) e h;
  no_gap = (no_piece-no_space b bytes none, begins-no_slash b (start_of b) (n + at) bytes t (start_of-begins b) e);
}

-- ---- at a position

-- the bytes of the buffer from an offset on, up to so many
abbrev pub part : List ℕ → ℕ → ℕ → List ℕ
part buffer n k = take k (drop n buffer)

-- What is left of a part at an offset is the first bytes of what is left of the buffer.
part-left : (buffer : List ℕ) (n k at : ℕ) → at ≤ k → drop at (part buffer n k) ≡ take (k - at) (drop (n + at) buffer)
part-left buffer n k at h =
    let size : k ≡ at + (k - at) = omega arith in
    ap (λ m. drop at (take m (drop n buffer))) size ∙ drop-take at (k - at) (drop n buffer) ∙ ap (take (k - at)) (drop-drop at n buffer)

-- A token that is cut at an offset is cut of the part that reaches to its end.
pub cut-within : (buffer : List ℕ) (n k at : ℕ) (t : Token) → n + at ≤ length buffer → cut buffer (n + at) jsonc ≡ token t →
    stop t.span ≤ n + k → IsCutWithin n t (cut (part buffer n k) at jsonc)
unfolding cut
cut-within buffer n k at t inside e h =
    let left = drop (n + at) buffer in
    let g = gap_len jsonc whole left in
    let to = past_gap buffer (n + at) jsonc in
    let there : to ≡ n + (at + g) = omega arith in
    let room : to + length (drop to buffer) ≡ length buffer =
    omega (arith, past_gap-bound buffer (n + at) jsonc inside, length-drop to buffer) in
    let fits : TokenFits buffer to t = subst (CutFits buffer to) e (here_fits jsonc buffer (drop to buffer) to refl room) in
    let bytes : drop to buffer ≡ drop g left = sym (drop-drop g (n + at) buffer) in
    let none : piece_len jsonc whole (drop g left) ≡ 0 = gap_len-ends jsonc whole left in
    let is : cut_here jsonc (n + (at + g)) (drop g left) ≡ token t =
    ap₂ (cut_here jsonc) (sym there) (sym bytes) ∙ e in
    let m = k - (at + g) in
    let here = here-within n (at + g) m (drop g left) t none is (omega (arith, fits.behind, fits.some)) (omega (arith, fits.behind, fits.some)) in
    let size : k - at ≡ g + m = omega (arith, fits.behind, fits.some) in
    let rest : drop at (part buffer n k) ≡ take (g + m) left =
    part-left buffer n k at (omega (arith, fits.behind, fits.some)) ∙ ap (λ x. take x left) size in
    let gap : gap_len jsonc whole (drop at (part buffer n k)) ≡ g =
    ap (gap_len jsonc whole) rest ∙ gap_from-within 0 (g + m) left (omega (arith, fits.behind, fits.some)) here.no_gap in
    let past : past_gap (part buffer n k) at jsonc ≡ at + g = omega (arith, gap) in
    let after : drop (at + g) (part buffer n k) ≡ take m (drop g left) =
    sym (drop-drop g at (part buffer n k)) ∙ ap (drop g) rest ∙ drop-take g m left in
    record {
      here = here.cut.here;
      same = here.cut.same;
      is_cut =
          ap (λ x. cut_here jsonc x (drop x (part buffer n k))) past ∙ ap (cut_here jsonc (at + g)) after ∙ here.cut.is_cut;
    }

-- ---- from where a token stands on

text-offset : (at : ℕ) (bytes : List ℕ) (t : Token) (found : Option ℕ) → cut_text at bytes found ≡ token t → t.span.offset ≡ at
text-offset at bytes t None e = cc
text-offset at bytes t (Some m) e = ap (λ x. x.span.offset) (sym (token-inj _ t e))

number-offset : (at : ℕ) (bytes : List ℕ) (len : ℕ) (hint : Hint) (bare : Bool) (t : Token) → cut_number at bytes len hint bare ≡ token t →
    t.span.offset ≡ at
number-offset at bytes len hint true t e = absurd (bare_minus-no_token at bytes t e)
number-offset at bytes len hint false t e = ap (λ x. x.span.offset) (sym (token-inj _ t e))

by-offset : (mode : Mode) (at b : ℕ) (bytes : List ℕ) (start : Start) (t : Token) → Begins b start → cut_by start mode at b bytes ≡ token t →
    t.span.offset ≡ at
by-offset mode at b bytes _ t (a_mark _ kind m) e = ap (λ x. x.span.offset) (sym (token-inj _ t e))
by-offset mode at b bytes _ t (a_word _ letters kind l) e =
    let all = cut_word-whole at (b ∷ bytes) (b ∷ letters) kind (common_len (b ∷ letters) (b ∷ bytes)) t e in
    ap (λ x. x.span.offset) (sym (token-inj _ t (sym (cut_word-is at (b ∷ bytes) (b ∷ letters) kind _ all) ∙ e)))
by-offset mode at b bytes _ t a_text e = text-offset at bytes t (content_len false bytes) e
by-offset mode at b bytes _ t (a_number _ s) e =
    let p = parts (b ∷ bytes) in
    number-offset at bytes (parts_len p) (parts_hint p) (is_bare p) t e
by-offset plain at b bytes _ t a_comment e = cc
by-offset jsonc at b bytes _ t a_comment e = absurd (slash-no_token at bytes t e)
by-offset mode at b bytes _ t (no_token _ s) e = cc

here-offset : (mode : Mode) (at : ℕ) (bytes : List ℕ) (t : Token) → cut_here mode at bytes ≡ token t → t.span.offset ≡ at
unfolding cut_here
here-offset mode at [] t e = cc
here-offset mode at (b ∷ bytes) t e = by-offset mode at b bytes (start_of b) t (start_of-begins b) e

-- A token that is cut is cut again from its first byte on.
pub cut-again : (buffer : List ℕ) (mode : Mode) (from : ℕ) (t : Token) → cut buffer from mode ≡ token t → cut buffer t.span.offset mode ≡ token t
unfolding cut
cut-again buffer mode from t e =
    let to = past_gap buffer from mode in
    let starts : t.span.offset ≡ to = here-offset mode to (drop to buffer) t e in
    let none : piece_len mode whole (drop to buffer) ≡ 0 =
    ap (piece_len mode whole) (sym (drop-drop (gap_len mode whole (drop from buffer)) from buffer)) ∙ gap_len-ends mode whole (drop from buffer) in
    let past : past_gap buffer t.span.offset mode ≡ to =
    ap (λ x. past_gap buffer x mode) starts ∙ omega (arith, gap_len-none mode whole (drop to buffer) none) in
    ap (λ x. cut_here mode x (drop x buffer)) past ∙ e
