-- What more bytes leave of a string or a word at the start of a buffer.
use Rattle.std.proofs.Common.{◌≡◌, ◌≢◌, ℕ, suc, ◌≤◌, Bool, true, false, cond, ◌==◌, List, [], ◌∷◌, ◌++◌, length, Option, Some, None, slice_get, refl, ap, ◌∙◌, arith}
use Rattle.std.proofs.lemmas.Bool.{eqb-true, eqb-false}
use Rattle.std.proofs.lemmas.List.{take-append-le}
use Rattle.facet_format.specs.Bytes.{quote, backslash}
use Rattle.facet_json_token.specs.Gap.{Mode}
use Rattle.facet_json_token.specs.Token.{Kind}
use Rattle.facet_json_token.specs.Cut.{common_len, cut_word, content_len, cut_text}
use Rattle.facet_json_token.specs.Shape.{ArePieces}
use Rattle.facet_json_token.specs.Open.{IsBeginning}
use Rattle.facet_json_token.proofs.TextShapes.{Below, content_len-below}
use Rattle.facet_json_scan.proofs.Growth.GrowthOfGap.{Keeps, one_more-keeps, cond-keeps, cond-none}

-- ---- a string

-- Where a string ends, it ends there under more bytes.
content_len-keeps : (escaped : Bool) (bytes more : List ℕ) →
    Keeps (content_len escaped bytes) (content_len escaped (bytes ++ more))
content_len-keeps escaped [] more n e = cc
content_len-keeps true (b ∷ bytes) more n e = one_more-keeps _ _ (content_len-keeps false bytes more) n e
content_len-keeps false (b ∷ bytes) more n e =
    cond-keeps (b == quote) 0 _ _ (content_len-keeps (b == backslash) bytes more) n e

-- The bytes are the content of a string that doesn't end, perhaps with a backslash at the end.
pub data IsUnended : List ℕ → Type 0 where
  whole : (bytes : List ℕ) (has_escapes : Bool) → ArePieces bytes has_escapes → IsUnended bytes
  escaped : (content bytes : List ℕ) (has_escapes : Bool) → ArePieces content has_escapes →
      bytes ≡ content ++ backslash ∷ [] → IsUnended bytes

-- A byte in front is content too.
with_byte : (b : ℕ) (bytes : List ℕ) → (b == quote) ≡ false → (b == backslash) ≡ false → IsUnended bytes →
    IsUnended (b ∷ bytes)
with_byte b bytes q s (whole _ e pieces) = whole _ e (ArePieces.byte b bytes e q s pieces)
with_byte b bytes q s (escaped content _ e pieces is) =
    escaped (b ∷ content) _ e (ArePieces.byte b content e q s pieces) (ap (λ l. b ∷ l) is)

-- An escape in front is content too.
with_escape : (b : ℕ) (bytes : List ℕ) → IsUnended bytes → IsUnended (backslash ∷ b ∷ bytes)
with_escape b bytes (whole _ e pieces) = whole _ true (ArePieces.escape b bytes e pieces)
with_escape b bytes (escaped content _ e pieces is) =
    escaped (backslash ∷ b ∷ content) _ true (ArePieces.escape b content e pieces) (ap (λ l. backslash ∷ b ∷ l) is)

-- the same, where a backslash stands in front or not
abbrev IsUnendedAfter : Bool → List ℕ → Type 0
IsUnendedAfter true bytes = IsUnended (backslash ∷ bytes)
IsUnendedAfter false bytes = IsUnended bytes

-- A byte in front, a backslash or not, is content too.
with_either : (t : Bool) (b : ℕ) (bytes : List ℕ) → (b == quote) ≡ false → (b == backslash) ≡ t →
    IsUnendedAfter t bytes → IsUnended (b ∷ bytes)
with_either true b bytes q s h = rw (eqb-true b backslash s) h
with_either false b bytes q s h = with_byte b bytes q s h

-- A string without an end is unended.
pub content_len-none : (t : Bool) (bytes : List ℕ) → content_len t bytes ≡ None → IsUnendedAfter t bytes
content_len-none true [] e = escaped [] _ false ArePieces.none refl
content_len-none false [] e = whole [] false ArePieces.none
content_len-none true (b ∷ bytes) e = with_escape b bytes (content_len-none false bytes (cond-none false 0 _ e).1)
content_len-none false (b ∷ bytes) e =
    let none = cond-none (b == quote) 0 (content_len (b == backslash) bytes) e in
    with_either (b == backslash) b bytes none.0 refl (content_len-none (b == backslash) bytes none.1)

-- After a quote it is the beginning of a string.
unended_begins : (mode : Mode) (bytes : List ℕ) → IsUnended bytes → IsBeginning mode (quote ∷ bytes)
unended_begins mode bytes (whole _ e pieces) = IsBeginning.text mode bytes e pieces
unended_begins mode bytes (escaped content _ e pieces is) = rw is (IsBeginning.escape mode content e pieces)

-- A string without an end is the beginning of one.
pub text_begins : (mode : Mode) (bytes : List ℕ) → content_len false bytes ≡ None → IsBeginning mode (quote ∷ bytes)
text_begins mode bytes e = unended_begins mode bytes (content_len-none false bytes e)

-- A string with an end o, which stays as p, is cut alike.
cut_text_by : (at : ℕ) (bytes more : List ℕ) (o p : Option ℕ) → (o ≡ None → ⊥) →
    Below o (length bytes) → Keeps o p →
    cut_text at (bytes ++ more) p ≡ cut_text at bytes o
cut_text_by at bytes more None p some below k = absurd (some refl)
cut_text_by at bytes more (Some n) p some below k =
    let within : n ≤ length bytes = omega arith in
    rw (k n refl, take-append-le n bytes more within)

-- A string that ends is cut alike from more bytes.
pub cut_text-stays : (mode : Mode) (at : ℕ) (bytes more : List ℕ) → (IsBeginning mode (quote ∷ bytes) → ⊥) →
    cut_text at (bytes ++ more) (content_len false (bytes ++ more)) ≡ cut_text at bytes (content_len false bytes)
cut_text-stays mode at bytes more shut =
    cut_text_by at bytes more _ _ (λ e. shut (text_begins mode bytes e)) (content_len-below false bytes)
    (content_len-keeps false bytes more)

-- ---- a word

-- The bytes are no proper prefix of the word.
abbrev IsNoFront : List ℕ → List ℕ → Type 0
IsNoFront bytes word = (others : List ℕ) → word ≡ bytes ++ others → others ≢ [] → ⊥

-- After a letter that both have the bytes are no proper prefix either.
no_prefix_after : (w b : ℕ) (word bytes : List ℕ) → (b == w) ≡ true → IsNoFront (b ∷ bytes) (w ∷ word) →
    IsNoFront bytes word
no_prefix_after w b word bytes t shut others e more =
    let same : b ≡ w = eqb-true b w t in
    shut others (cc) more

-- One letter more, where both have it.
cond_suc : (t : Bool) (m n : ℕ) → (t ≡ true → m ≡ n) → cond t (suc m) 0 ≡ cond t (suc n) 0
cond_suc true m n h = ap suc (h refl)
cond_suc false m n h = refl

-- Bytes that are no proper prefix of the word have as many of its letters under more.
common_len-stays : (word bytes more : List ℕ) → IsNoFront bytes word →
    common_len word (bytes ++ more) ≡ common_len word bytes
common_len-stays [] bytes more shut = refl
common_len-stays (w ∷ word) [] more shut = absurd (shut (w ∷ word) refl (λ e. cc))
common_len-stays (w ∷ word) (b ∷ bytes) more shut =
    cond_suc (b == w) _ _ (λ t. common_len-stays word bytes more (no_prefix_after w b word bytes t shut))

-- At a prefix of n letters the longer bytes have what the bytes have.
abbrev SameAt : List ℕ → List ℕ → ℕ → Type 0
SameAt longer bytes n = slice_get longer n ≡ slice_get bytes n

-- One letter more, where both have it.
same_at_suc : (t : Bool) (b n : ℕ) (longer bytes : List ℕ) → (t ≡ true → SameAt longer bytes n) →
    SameAt (b ∷ longer) (b ∷ bytes) (cond t (suc n) 0)
same_at_suc true b n longer bytes further = further refl
same_at_suc false b n longer bytes further = refl

-- Where the bytes differ from the word, they differ within.
word_differs : (word bytes more : List ℕ) → IsNoFront bytes word → common_len word bytes ≢ length word →
    SameAt (bytes ++ more) bytes (common_len word bytes)
word_differs [] bytes more shut short = absurd (short refl)
word_differs (w ∷ word) [] more shut short = absurd (shut (w ∷ word) refl (λ e. cc))
word_differs (w ∷ word) (b ∷ bytes) more shut short =
    same_at_suc (b == w) b (common_len word bytes) (bytes ++ more) bytes
    (λ t. word_differs word bytes more (no_prefix_after w b word bytes t shut) (λ e. short (rw t (ap suc e))))

-- A word of which the bytes have n letters is cut alike, whole or not.
cut_word_by : (t : Bool) (at : ℕ) (bytes longer word : List ℕ) (kind : Kind) (n : ℕ) → (n == length word) ≡ t →
    (n ≢ length word → SameAt longer bytes n) →
    cut_word at longer word kind n ≡ cut_word at bytes word kind n
cut_word_by true at bytes longer word kind n t same = rw t
cut_word_by false at bytes longer word kind n t same = rw (same (eqb-false n (length word) t))

-- A word that stands, or differs from the bytes, is cut alike from more bytes.
pub cut_word-stays : (at : ℕ) (bytes more word : List ℕ) (kind : Kind) → IsNoFront bytes word →
    cut_word at (bytes ++ more) word kind (common_len word (bytes ++ more))
    ≡ cut_word at bytes word kind (common_len word bytes)
cut_word-stays at bytes more word kind shut =
    ap (cut_word at (bytes ++ more) word kind) (common_len-stays word bytes more shut)
    ∙ cut_word_by _ at bytes (bytes ++ more) word kind (common_len word bytes) refl (word_differs word bytes more shut)
