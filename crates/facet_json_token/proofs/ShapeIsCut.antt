-- A token is cut exactly where its shape stands, so at one place stands the shape of at most one token.
use Rattle.std.proofs.Common.{◌≡◌, ℕ, suc, ◌+◌, ◌≤◌, min, Bool, true, false, cond, ◌==◌, List, [], ◌∷◌, ◌++◌, length, take, drop, Option, Some, None, refl, sym, ap, ◌∙◌, subst, arith, length-drop, take-add}
use Rattle.std.specs.Prelude.{slice_get}
use Rattle.std.proofs.lemmas.Bool.{cond_both, eqb-true}
use Rattle.std.proofs.lemmas.List.{length-take-le, take_at, drop_at, take_min}
use Rattle.facet_format.specs.Bytes.{quote, slash, star}
use Rattle.facet_json_token.specs.Gap.{Mode, plain, jsonc}
use Rattle.facet_format.specs.Number.{IsNumber}
use Rattle.facet_format.specs.NumberParts.{parts, parts_len, parts_hint, is_bare, starts_number, begins_number}
use Rattle.facet_json_token.specs.Token.{Kind, string, number, Token, unexpected_eof, unexpected_char, in_literal}
use Rattle.facet_json_token.specs.Cut.{Cut, nothing_left, token, fault, Start, start_of, token_at, fault_at, common_len, cut_word, content_len, has_backslash, cut_text, cut_number, cut_slash, cut_by, cut_here}
use Rattle.facet_json_token.specs.Shape.{IsLiteral, IsLongest, IsShape}
use Rattle.facet_json_token.specs.Laws.{ShapeIsCut, ShapeIsUnique}
use Rattle.facet_json_token.proofs.Starts.{Begins, a_mark, a_word, a_text, a_number, a_comment, no_token, start_of-begins}
use Rattle.facet_format.proofs.NumberPrefixes.{parts_len-bound}
use Rattle.facet_format.proofs.NumberLaws.{number_is_longest}
use Rattle.facet_json_token.proofs.TextShapes.{Below, content_len-below, ContentAt, content_at}
use Rattle.facet_json_token.proofs.CutBounds.{common_len-bound}
use Rattle.facet_json_token.proofs.ShapesCut.{cut_here-shape}

-- ---- what is cut has the shape

-- The token's bytes are in front, and have its shape.
pub record ShapeAt (at : ℕ) (bytes : List ℕ) (t : Token) : Type 0 where
  pub starts : t.span.offset ≡ at
  pub within : t.span.len ≤ length bytes
  pub shape : IsShape at (take t.span.len bytes) (drop t.span.len bytes) t.kind

-- A token that is cut has its shape, and where nothing is cut no byte is left.
abbrev pub CutShape : ℕ → List ℕ → Cut → Type 0
CutShape at bytes nothing_left = bytes ≡ []
CutShape at bytes (fault f) = Unit {0}
CutShape at bytes (token t) = ShapeAt at bytes t

-- A letter more that the word and the bytes share.
common_step : (t : Bool) (b w n m : ℕ) (bytes word : List ℕ) → (b == w) ≡ t → cond t (suc n) 0 ≡ suc m →
    (n ≡ m → bytes ≡ word) → b ∷ bytes ≡ w ∷ word
common_step true b w n m bytes word e h f = ap (λ x. x ∷ bytes) (eqb-true b w e) ∙ ap (λ l. w ∷ l) (f (omega arith))
common_step false b w n m bytes word e h f = absurd (omega arith)

-- A word whose letters are all there is in front.
common_len-all : (word bytes : List ℕ) → common_len word bytes ≡ length word → take (length word) bytes ≡ word
common_len-all [] bytes e = refl
common_len-all (w ∷ word) [] e = absurd (omega arith)
common_len-all (w ∷ word) (b ∷ bytes) e = common_step (b == w) b w _ _ _ word refl e (common_len-all word bytes)

-- Where a word breaks off there is no token.
broken_shape : (at n : ℕ) (bytes : List ℕ) (found : Option ℕ) →
    CutShape at bytes (elim found
    [ None ↦ fault_at (unexpected_eof in_literal) at n | Some b ↦ fault_at (unexpected_char b) (at + n) 1 ])
broken_shape at n bytes None = tt
broken_shape at n bytes (Some b) = tt

-- A word that stands in front has the shape of its kind.
literal_shape : (at n : ℕ) (bytes word : List ℕ) (kind : Kind) → IsLiteral word kind → n ≤ length bytes →
    n ≡ length word → take n bytes ≡ word →
    ShapeAt at bytes (record { kind = kind; span = record { offset = at; len = n } })
literal_shape at n bytes word kind h bound e front =
    record {
      starts = refl;
      within = bound;
      shape = subst (λ w. IsShape at w (drop n bytes) kind) (sym front)
          (IsShape.literal word kind (drop n bytes) h);
    }

-- A word that is cut has its shape.
word_shape : (at : ℕ) (bytes word : List ℕ) (kind : Kind) → IsLiteral word kind →
    CutShape at bytes (cut_word at bytes word kind (common_len word bytes))
word_shape at bytes word kind h =
    let n = common_len word bytes in
    cond_both (n == length word) _ _ (CutShape at bytes)
    (λ e. let all : n ≡ length word = eqb-true n (length word) e in
    literal_shape at n bytes word kind h (common_len-bound word bytes) all
    (ap (λ k. take k bytes) all ∙ common_len-all word bytes all))
    (λ e. broken_shape at n bytes (slice_get bytes n))

-- A string that is cut has its shape.
text_shape : (at : ℕ) (bytes : List ℕ) (o : Option ℕ) → Below o (length bytes) → ContentAt false bytes o →
    CutShape at (quote ∷ bytes) (cut_text at bytes o)
text_shape at bytes None below h = tt
text_shape at bytes (Some n) below h =
    let content = take n bytes in
    let rest = drop (suc n) bytes in
    let mark = has_backslash content in
    let kind : ℕ → Kind = λ k. string (suc at) (suc at + k) mark in
    let long : length content ≡ n = length-take-le n bytes (omega arith) in
    let stands : IsShape at (quote ∷ (content ++ quote ∷ [])) rest (kind (length content)) =
    IsShape.text content rest mark h.0 in
    let here : IsShape at (quote ∷ take (suc n) bytes) rest (kind (length content)) =
    subst (λ l. IsShape at (quote ∷ l) rest (kind (length content))) (sym h.1) stands in
    record {
      starts = refl;
      within = omega arith;
      shape = subst (λ k. IsShape at (quote ∷ take (suc n) bytes) rest (kind k))
          long here;
    }

-- What is measured as a number can't be made longer.
longest_measured : (bytes : List ℕ) → begins_number bytes ≡ true → is_bare (parts bytes) ≡ false →
    IsLongest (take (parts_len (parts bytes)) bytes) (drop (parts_len (parts bytes)) bytes)
longest_measured bytes begins more m hint is_more =
    let n = parts_len (parts bytes) in
    let rest = drop n bytes in
    let j = min m (length rest) in
    let same : take j rest ≡ take m rest = take_min m rest in
    let front : take n bytes ++ take m rest ≡ take (n + j) bytes =
    ap (λ l. take n bytes ++ l) (sym same) ∙ sym (take-add n j bytes) in
    let bound : n + j ≤ length bytes = omega (arith, length-drop n bytes, parts_len-bound bytes) in
    let short : n + j ≤ n =
    (number_is_longest bytes begins more).2 (n + j) hint bound (subst (λ l. IsNumber l hint) front is_more) in
    let none : j ≡ 0 = omega arith in
    sym same ∙ ap (λ k. take k rest) none

-- A number that is cut has its shape.
number_shape : (at b : ℕ) (bytes : List ℕ) (bare : Bool) → starts_number b ≡ true → is_bare (parts (b ∷ bytes)) ≡ bare →
    CutShape at (b ∷ bytes) (cut_number at bytes (parts_len (parts (b ∷ bytes))) (parts_hint (parts (b ∷ bytes))) bare)
number_shape at b [] true starts e = tt
number_shape at b (c ∷ bytes) true starts e = tt
number_shape at b bytes false starts e =
    let all = b ∷ bytes in
    let n = parts_len (parts all) in
    let hint = parts_hint (parts all) in
    let law = number_is_longest all starts e in
    let stands : IsShape at (take n all) (drop n all) (number at (at + length (take n all)) hint) =
    IsShape.numeral (take n all) (drop n all) hint law.1 (longest_measured all starts e) in
    record {
      starts = refl;
      within = law.0;
      shape = subst (λ k. IsShape at (take n all) (drop n all) (number at (at + k) hint))
          (length-take-le n all law.0) stands;
    }

-- No token begins with a slash.
slash_shape : (mode : Mode) (at : ℕ) (all bytes : List ℕ) → CutShape at all (cut_slash mode at bytes)
slash_shape plain at all bytes = tt
slash_shape jsonc at all [] = tt
slash_shape jsonc at all (b ∷ bytes) = cond_both (b == star) _ _ (CutShape at all) (λ e. tt) (λ e. tt)

-- What is cut by its first byte has its shape.
by_shape : (mode : Mode) (at b : ℕ) (bytes : List ℕ) (start : Start) → Begins b start →
    CutShape at (b ∷ bytes) (cut_by start mode at b bytes)
by_shape mode at b bytes _ (a_mark _ kind h) =
    record { starts = refl; within = omega arith; shape = IsShape.structural b kind bytes h }
by_shape mode at b bytes _ (a_word _ letters kind h) = word_shape at (b ∷ bytes) (b ∷ letters) kind h
by_shape mode at b bytes _ a_text =
    text_shape at bytes (content_len false bytes) (content_len-below false bytes) (content_at false bytes)
by_shape mode at b bytes _ (a_number _ h) = number_shape at b bytes (is_bare (parts (b ∷ bytes))) h refl
by_shape mode at b bytes _ a_comment = slash_shape mode at (slash ∷ bytes) bytes
by_shape mode at b bytes _ (no_token _ h) = tt

-- What is cut has its shape.
pub here_shape : (mode : Mode) (at : ℕ) (bytes : List ℕ) → CutShape at bytes (cut_here mode at bytes)
unfolding cut_here
here_shape mode at [] = refl
here_shape mode at (b ∷ bytes) = by_shape mode at b bytes (start_of b) (start_of-begins b)

-- What is cut as a token has its shape.
pub IsShape-cut : (mode : Mode) (at : ℕ) (bytes rest : List ℕ) (kind : Kind) →
    cut_here mode at (bytes ++ rest) ≡ token_at kind at (length bytes) → IsShape at bytes rest kind
IsShape-cut mode at bytes rest kind e =
    let n = length bytes in
    let here : ShapeAt at (bytes ++ rest) (record { kind = kind; span = record { offset = at; len = n } }) =
    subst (CutShape at (bytes ++ rest)) e (here_shape mode at (bytes ++ rest)) in
    subst (λ l. IsShape at l rest kind) (take_at bytes rest n refl)
    (subst (λ l. IsShape at (take n (bytes ++ rest)) l kind) (drop_at bytes rest n refl) here.shape)

-- ---- the laws

-- A token is cut exactly where its shape stands.
pub shape_is_cut : ShapeIsCut
shape_is_cut mode at bytes rest kind = (cut_here-shape mode at bytes rest kind, IsShape-cut mode at bytes rest kind)

-- Equal tokens have one length and one kind.
same_token : (kind other : Kind) (at n m : ℕ) → token_at kind at n ≡ token_at other at m → (n ≡ m) × (kind ≡ other)
same_token kind other at n m e =
    let t : Token = record { kind = kind; span = record { offset = at; len = n } } in
    let u : Token = record { kind = other; span = record { offset = at; len = m } } in
    let same : t ≡ u = cc in
    (ap (λ x. x.span.len) same, ap (λ x. x.kind) same)

-- At one place stands the shape of at most one token.
pub shape_is_unique : ShapeIsUnique
shape_is_unique at a b r s kind other ha hb e =
    let same = same_token kind other at (length a) (length b)
    (sym (cut_here-shape plain at a r kind ha) ∙ ap (cut_here plain at) e ∙ cut_here-shape plain at b s other hb) in (
      sym (take_at a r (length a) refl) ∙ ap (take (length a)) e ∙ ap (λ n. take n (b ++ s)) same.0
          ∙ take_at b s (length b) refl,
      same.1,
    )
