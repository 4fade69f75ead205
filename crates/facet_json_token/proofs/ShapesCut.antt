-- What has the shape of a token is cut.
use Rattle.std.proofs.Common.{◌≡◌, ℕ, suc, ◌+◌, ◌-◌, ◌≤◌, ◌<◌, Bool, true, false, List, [], ◌∷◌, ◌++◌, length, take, drop, refl, sym, ap, ◌∙◌, subst, arith, length-append, append_assoc, take-add}
use Rattle.std.proofs.lemmas.Bool.{eqb-true, both_ways, false_from_ne_true}
use Rattle.std.proofs.lemmas.List.{length-take-le, take_at, drop_at}
use Rattle.facet_format.specs.Bytes.{quote}
use Rattle.facet_format.specs.Number.{Hint, IsNumber}
use Rattle.facet_format.specs.NumberParts.{parts, parts_len, parts_hint, is_bare, begins_number}
use Rattle.facet_json_token.specs.Gap.{Mode}
use Rattle.facet_json_token.specs.Token.{Kind, string, number}
use Rattle.facet_json_token.specs.Cut.{start_of, token_at, content_len, has_backslash, cut_text, cut_number, cut_by, cut_here}
use Rattle.facet_json_token.specs.Shape.{IsStructural, object_starts, object_ends, array_starts, array_ends, colon_stands, comma_stands, ArePieces, IsLiteral, null_stands, true_stands, false_stands, IsLongest, IsShape}
use Rattle.facet_format.proofs.NumberPrefixes.{parts-take, is_bare-some}
use Rattle.facet_format.proofs.NumberLaws.{number_is_longest, parts_len-is, parts_hint-is, begins_number-is, is_bare-number}
use Rattle.facet_json_token.proofs.NumberCuts.{sign-bound}
use Rattle.facet_json_token.proofs.Starts.{start_of-number}
use Rattle.facet_json_token.proofs.TextShapes.{content_len-is, pieces-mark}

-- A bracket, a colon or a comma is cut.
structural_is_cut : (mode : Mode) (at b : ℕ) (rest : List ℕ) (kind : Kind) → IsStructural b kind →
    cut_here mode at (b ∷ rest) ≡ token_at kind at 1
unfolding cut_here start_of
structural_is_cut mode at _ rest _ object_starts = refl
structural_is_cut mode at _ rest _ object_ends = refl
structural_is_cut mode at _ rest _ array_starts = refl
structural_is_cut mode at _ rest _ array_ends = refl
structural_is_cut mode at _ rest _ colon_stands = refl
structural_is_cut mode at _ rest _ comma_stands = refl

-- A literal is cut.
literal_is_cut : (mode : Mode) (at : ℕ) (word rest : List ℕ) (kind : Kind) → IsLiteral word kind →
    cut_here mode at (word ++ rest) ≡ token_at kind at (length word)
unfolding cut_here start_of
literal_is_cut mode at _ rest _ null_stands = refl
literal_is_cut mode at _ rest _ true_stands = refl
literal_is_cut mode at _ rest _ false_stands = refl

-- After a quote a string is cut.
pub cut_here-text : (mode : Mode) (at : ℕ) (bytes : List ℕ) →
    cut_here mode at (quote ∷ bytes) ≡ cut_text at bytes (content_len false bytes)
unfolding cut_here start_of
cut_here-text mode at bytes = refl

-- A string is cut.
text_is_cut : (mode : Mode) (at : ℕ) (content rest : List ℕ) (has_escapes : Bool) → ArePieces content has_escapes →
    cut_here mode at (quote ∷ content ++ quote ∷ [] ++ rest)
    ≡ token_at (string (suc at) (suc at + length content) has_escapes) at (length (quote ∷ content ++ quote ∷ []))
text_is_cut mode at content rest has_escapes h =
    let n = length content in
    let bytes = content ++ quote ∷ rest in
    let all : content ++ quote ∷ [] ++ rest ≡ bytes = append_assoc content (quote ∷ []) rest in
    let front : has_backslash (take n bytes) ≡ has_escapes =
    ap has_backslash (take_at content (quote ∷ rest) n refl) ∙ pieces-mark content has_escapes h in
    let long : suc (suc n) ≡ suc (length (content ++ quote ∷ [])) = omega (arith, length-append content (quote ∷ [])) in
    ap (λ l. cut_here mode at (quote ∷ l)) all ∙ cut_here-text mode at bytes
    ∙ ap (cut_text at bytes) (content_len-is content rest has_escapes h)
    ∙ ap (λ m. token_at (string (suc at) (suc at + n) m) at (suc (suc n))) front
    ∙ ap (token_at (string (suc at) (suc at + n) has_escapes) at) long

-- A number that is more than a minus is cut as long as it is measured.
number_is_cut : (mode : Mode) (at : ℕ) (bytes : List ℕ) → begins_number bytes ≡ true →
    is_bare (parts bytes) ≡ false →
    cut_here mode at bytes
    ≡ token_at (number at (at + parts_len (parts bytes)) (parts_hint (parts bytes))) at (parts_len (parts bytes))
unfolding cut_here
number_is_cut mode at [] begins more = cc
number_is_cut mode at (b ∷ bytes) begins more =
    let p = parts (b ∷ bytes) in
    ap (λ s. cut_by s mode at b bytes) (start_of-number b begins)
    ∙ ap (cut_number at bytes (parts_len p) (parts_hint p)) more

-- What is in front is before more.
begins_number-append : (text rest : List ℕ) → begins_number text ≡ true → begins_number (text ++ rest) ≡ true
begins_number-append [] rest e = cc
begins_number-append (b ∷ text) rest e = e

-- More than a minus stands where a number is in front.
pub bare_behind : (text rest : List ℕ) (hint : Hint) → IsNumber text hint → is_bare (parts (text ++ rest)) ≡ false
bare_behind text rest hint is =
    let all = text ++ rest in
    let p = parts all in
    let k = length text in
    let some : 0 < k =
    omega (arith, is_bare-some (parts text) (is_bare-number text hint is), parts_len-is text hint is.numeral) in
    let front : parts (take k all) ≡ parts text = ap parts (take_at text rest k refl) in
    false_from_ne_true (is_bare p) (λ e.
    let short : parts_len p ≤ k = omega (arith, eqb-true (parts_len p) p.sign e, sign-bound all) in
    both_ways (is_bare (parts text)) (is_bare-number text hint is)
    (ap is_bare (sym front ∙ parts-take k all short) ∙ e))

-- A number that can't be made longer has the parts that are measured.
number_parts : (text rest : List ℕ) (hint : Hint) → IsNumber text hint → IsLongest text rest →
    parts (text ++ rest) ≡ parts text
number_parts text rest hint is longest =
    let all = text ++ rest in
    let k = length text in
    let n = parts_len (parts all) in
    let j = n - k in
    let front : take k all ≡ text = take_at text rest k refl in
    let law =
    number_is_longest all (begins_number-append text rest (begins_number-is text hint is.numeral))
    (bare_behind text rest hint is) in
    let size : length all ≡ k + length rest = length-append text rest in
    let least : k ≤ n = law.2 k hint (omega arith) (subst (λ l. IsNumber l hint) (sym front) is) in
    let sum : n ≡ k + j = omega arith in
    let split : take n all ≡ text ++ take j rest =
    ap (λ m. take m all) sum ∙ take-add k j all ∙ ap (λ l. l ++ take j (drop k all)) front
    ∙ ap (λ l. text ++ take j l) (drop_at text rest k refl) in
    let none : take j rest ≡ [] =
    longest j (parts_hint (parts all)) (subst (λ l. IsNumber l (parts_hint (parts all))) split law.1) in
    let short : n ≤ k = omega (arith, law.0, length-take-le j rest (omega (arith, law.0)), ap length none) in
    sym (parts-take k all short) ∙ ap parts front

-- A number that can't be made longer is cut.
numeral_is_cut : (mode : Mode) (at : ℕ) (text rest : List ℕ) (hint : Hint) → IsNumber text hint → IsLongest text rest →
    cut_here mode at (text ++ rest) ≡ token_at (number at (at + length text) hint) at (length text)
numeral_is_cut mode at text rest hint is longest =
    number_is_cut mode at (text ++ rest) (begins_number-append text rest (begins_number-is text hint is.numeral))
    (bare_behind text rest hint is)
    ∙ ap (λ p. token_at (number at (at + parts_len p) (parts_hint p)) at (parts_len p))
    (number_parts text rest hint is longest)
    ∙ ap (λ n. token_at (number at (at + n) (parts_hint (parts text))) at n) (parts_len-is text hint is.numeral)
    ∙ ap (λ h. token_at (number at (at + length text) h) at (length text)) (parts_hint-is text hint is.numeral)

-- What has the shape of a token is cut.
pub cut_here-shape : (mode : Mode) (at : ℕ) (bytes rest : List ℕ) (kind : Kind) → IsShape at bytes rest kind →
    cut_here mode at (bytes ++ rest) ≡ token_at kind at (length bytes)
cut_here-shape mode at _ _ _ (IsShape.structural b kind rest h) = structural_is_cut mode at b rest kind h
cut_here-shape mode at _ _ _ (IsShape.literal word kind rest h) = literal_is_cut mode at word rest kind h
cut_here-shape mode at _ _ _ (IsShape.text content rest has_escapes h) = text_is_cut mode at content rest has_escapes h
cut_here-shape mode at _ _ _ (IsShape.numeral text rest hint is longest) =
    numeral_is_cut mode at text rest hint is longest
