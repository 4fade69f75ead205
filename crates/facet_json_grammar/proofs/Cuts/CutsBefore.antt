-- A token is cut alike further on, and where bytes follow that do not go on with a number.
use Rattle.std.proofs.Common.{◌≡◌, ℕ, suc, ◌+◌, Bool, true, false, cond, ◌==◌, List, [], ◌∷◌, ◌++◌, length, take, slice_get, Option, Some, None, refl, sym, ap, ap₂, ◌∙◌, arith, eqb-true}
use Rattle.std.specs.List.{list_any}
use Rattle.std.proofs.lemmas.List.{take-append-le}
use Rattle.facet_format.specs.Bytes.{quote, backslash}
use Rattle.facet_format.specs.Number.{Hint}
use Rattle.facet_format.specs.NumberParts.{parts, parts_len, parts_hint, is_bare}
use Rattle.facet_json_token.specs.Cut.{Cut, token, Start, start_of, token_at, fault_at, common_len, cut_word, content_len, cut_text, cut_number, cut_by, cut_here}
use Rattle.facet_json_token.specs.Shape.{IsStructural, object_starts, object_ends, array_starts, array_ends, colon_stands, comma_stands, IsLiteral, null_stands, true_stands, false_stands}
use Rattle.facet_json_token.specs.Gap.{plain}
use Rattle.facet_json_token.specs.GapLen.{one_more}
use Rattle.facet_json_token.specs.Token.{Kind, Token, string, number, unexpected_char, unexpected_eof, in_literal}
use Rattle.facet_json_token.proofs.FirstBytes.{cut_word-is}
use Rattle.facet_json_token.proofs.NumberCuts.{bare_minus-no_token}
use Rattle.facet_json_token.proofs.Starts.{Begins, a_mark, a_word, a_text, a_number, a_comment, no_token, start_of-begins}
use Rattle.facet_json_token.proofs.TextShapes.{Below, content_len-below}
use Rattle.facet_json_grammar.proofs.Cuts.MovedTokens.{moved_kind, moved}
use Rattle.facet_json_grammar.proofs.Cuts.NumbersBefore.{parts-stay}
use Rattle.facet_json_grammar.proofs.Scalars.OneToken.{ends_number}

-- a token moved, or nothing of interest
abbrev moved_cut : ℕ → Cut → Cut
moved_cut n (token t) = token (moved n t)
moved_cut n c = c

-- ---- brackets, colons, commas and literals

-- Their kind does not say where they stand.
pub structural-stays : (n b : ℕ) (kind : Kind) → IsStructural b kind → moved_kind n kind ≡ kind
structural-stays n _ _ object_starts = refl
structural-stays n _ _ object_ends = refl
structural-stays n _ _ array_starts = refl
structural-stays n _ _ array_ends = refl
structural-stays n _ _ colon_stands = refl
structural-stays n _ _ comma_stands = refl

pub literal-stays : (n : ℕ) (word : List ℕ) (kind : Kind) → IsLiteral word kind → moved_kind n kind ≡ kind
literal-stays n _ _ null_stands = refl
literal-stays n _ _ true_stands = refl
literal-stays n _ _ false_stands = refl

-- A word that is all there is all there before other bytes.
common_len-stays : (word bytes after : List ℕ) → common_len word bytes ≡ length word →
    common_len word (bytes ++ after) ≡ length word
common_len-stays [] bytes after e = refl
common_len-stays (w ∷ word) [] after e = absurd (omega arith)
common_len-stays (w ∷ word) (b ∷ bytes) after e = at (b == w) (λ h. common_len-stays word bytes after h) e
  where
    at : (t : Bool) → (common_len word bytes ≡ length word → common_len word (bytes ++ after) ≡ length word) →
        cond t (suc (common_len word bytes)) 0 ≡ suc (length word) →
        cond t (suc (common_len word (bytes ++ after))) 0 ≡ suc (length word)
    at true h e = ap suc (h (omega arith))
    at false h e = absurd (omega arith)

-- Where a word is cut as a token it is all there.
pub cut_word-whole : (at : ℕ) (bytes word : List ℕ) (kind : Kind) (n : ℕ) (t : Token) → cut_word at bytes word kind n ≡ token t →
    n ≡ length word
cut_word-whole at bytes word kind n t e = by (n == length word) refl (slice_get bytes n) e
  where
    by : (whole : Bool) → (n == length word) ≡ whole → (found : Option ℕ) →
        cond whole (token_at kind at n)
        (elim found [ None ↦ fault_at (unexpected_eof in_literal) at n | Some b ↦ fault_at (unexpected_char b) (at + n) 1 ])
        ≡ token t → n ≡ length word
    by true same found e = eqb-true n (length word) same
    by false same None e = cc
    by false same (Some b) e = cc

word-moved : (n at : ℕ) (bytes after word : List ℕ) (kind : Kind) (t : Token) → IsLiteral word kind →
    cut_word at bytes word kind (common_len word bytes) ≡ token t →
    cut_word (n + at) (bytes ++ after) word kind (common_len word (bytes ++ after)) ≡ token (moved n t)
word-moved n at bytes after word kind t h e =
    let whole = cut_word-whole at bytes word kind (common_len word bytes) t e in
    cut_word-is (n + at) (bytes ++ after) word kind _ (common_len-stays word bytes after whole)
    ∙ ap (λ k. token_at k (n + at) (length word)) (sym (literal-stays n word kind h))
    ∙ ap (moved_cut n) (sym (cut_word-is at bytes word kind _ whole) ∙ e)

-- ---- strings

one_more-stays : (o p : Option ℕ) (k : ℕ) → ((j : ℕ) → o ≡ Some j → p ≡ Some j) → one_more o ≡ Some k →
    one_more p ≡ Some k
one_more-stays None p k h e = cc
one_more-stays (Some j) p k h e = rw (h j refl) e

-- Content is measured alike before other bytes.
content_len-stays : (escaped : Bool) (bytes after : List ℕ) (k : ℕ) → content_len escaped bytes ≡ Some k →
    content_len escaped (bytes ++ after) ≡ Some k
content_len-stays true [] after k e = cc
content_len-stays false [] after k e = cc
content_len-stays true (b ∷ bytes) after k e =
    one_more-stays (content_len false bytes) _ k (λ j. content_len-stays false bytes after j) e
content_len-stays false (b ∷ bytes) after k e =
    at (b == quote) (content_len (b == backslash) bytes) (content_len (b == backslash) (bytes ++ after))
    (λ j. content_len-stays (b == backslash) bytes after j) e
  where
    at : (t : Bool) (o p : Option ℕ) → ((j : ℕ) → o ≡ Some j → p ≡ Some j) → cond t (Some 0) (one_more o) ≡ Some k →
        cond t (Some 0) (one_more p) ≡ Some k
    at true o p h e = e
    at false o p h e = one_more-stays o p k h e

text-moved : (n at : ℕ) (bytes after : List ℕ) (t : Token) (found : Option ℕ) → content_len false bytes ≡ found →
    Below found (length bytes) → cut_text at bytes found ≡ token t →
    cut_text (n + at) (bytes ++ after) (content_len false (bytes ++ after)) ≡ token (moved n t)
text-moved n at bytes after t None same below e = cc
text-moved n at bytes after t (Some k) same below e =
    let content : take k (bytes ++ after) ≡ take k bytes = take-append-le k bytes after (omega arith) in
    let start : suc (n + at) ≡ n + suc at = omega arith in
    let finish : suc (n + at) + k ≡ n + (suc at + k) = omega arith in
    ap (cut_text (n + at) (bytes ++ after)) (content_len-stays false bytes after k same)
    ∙ ap (λ l. token_at (string (suc (n + at)) (suc (n + at) + k) (list_any (λ b. b == backslash) l)) (n + at) (suc (suc k))) content
    ∙ ap₂ (λ s f. token_at (string s f (list_any (λ b. b == backslash) (take k bytes))) (n + at) (suc (suc k))) start finish
    ∙ ap (moved_cut n) e

-- ---- numbers

number-moved : (n at : ℕ) (bytes others : List ℕ) (len : ℕ) (hint : Hint) (bare : Bool) (t : Token) →
    cut_number at bytes len hint bare ≡ token t → cut_number (n + at) others len hint bare ≡ token (moved n t)
number-moved n at bytes others len hint true t e = absurd (bare_minus-no_token at bytes t e)
number-moved n at bytes others len hint false t e =
    let finish : n + at + len ≡ n + (at + len) = omega arith in
    ap (λ f. token_at (number (n + at) f hint) (n + at) len) finish ∙ ap (moved_cut n) e

-- ---- any token

by-moved : (n at b : ℕ) (bytes after : List ℕ) (start : Start) (t : Token) → ends_number after ≡ true → Begins b start →
    cut_by start plain at b bytes ≡ token t → cut_by start plain (n + at) b (bytes ++ after) ≡ token (moved n t)
by-moved n at b bytes after _ t ends (a_mark _ kind h) e =
    ap (λ k. token_at k (n + at) 1) (sym (structural-stays n b kind h)) ∙ ap (moved_cut n) e
by-moved n at b bytes after _ t ends (a_word _ letters kind h) e =
    word-moved n at (b ∷ bytes) after (b ∷ letters) kind t h e
by-moved n at b bytes after _ t ends a_text e =
    text-moved n at bytes after t (content_len false bytes) refl (content_len-below false bytes) e
by-moved n at b bytes after _ t ends (a_number _ h) e =
    let p = parts (b ∷ bytes) in
    let moved_one : cut_number (n + at) (bytes ++ after) (parts_len p) (parts_hint p) (is_bare p) ≡ token (moved n t) =
    number-moved n at bytes (bytes ++ after) (parts_len p) (parts_hint p) (is_bare p) t e in
    ap (λ q. cut_number (n + at) (bytes ++ after) (parts_len q) (parts_hint q) (is_bare q)) (parts-stay (b ∷ bytes) after ends)
    ∙ moved_one
by-moved n at b bytes after _ t ends a_comment e = cc
by-moved n at b bytes after _ t ends (no_token _ h) e = cc

-- A token is cut alike n bytes later, before bytes that do not go on with a number.
pub cut_here-moved : (n at b : ℕ) (bytes after : List ℕ) (t : Token) → ends_number after ≡ true →
    cut_here plain at (b ∷ bytes) ≡ token t → cut_here plain (n + at) (b ∷ (bytes ++ after)) ≡ token (moved n t)
unfolding cut_here
cut_here-moved n at b bytes after t ends e = by-moved n at b bytes after (start_of b) t ends (start_of-begins b) e
