-- The content of a string byte by byte.
use Rattle.std.proofs.Common.{◌≡◌, ℕ, suc, ◌+◌, ◌-◌, ◌≤◌, Bool, true, false, not, ◌&&◌, ◌||◌, ◌⊎◌, inl, inr, cond, eqb, List, ◌∷◌, get_or, take, drop, slice_get, Option, Some, None, refl, ap, ap₂, sym, ◌∙◌, arith}
use Rattle.std.proofs.Math.Bool.{and-true}
use Rattle.std.proofs.lemmas.List.{get_or-drop, length-drop}
use Rattle.std.proofs.lemmas.List.Folds.{list_any_more}
use Rattle.std.proofs.lemmas.Bool.{and_left, and_right, ne_eqb}
use Rattle.std.proofs.lemmas.Option.{slice_get_within, get_or_from_slice_get}
use Rattle.std.specs.List.{list_any}
use Rattle.std.specs.Option.{option_map}
use Rattle.facet_format.specs.Bytes.{quote, backslash}
use Rattle.facet_json_token.specs.GapLen.{one_more}
use Rattle.facet_json_token.specs.Token.{string}
use Rattle.facet_json_token.specs.Cut.{content_len, cut_text, token_at}
use Rattle.facet_json_token.proofs.Offsets.{drop-at_byte, option_map-one_more}

content_len-more : (b : ℕ) (bytes : List ℕ) (escaped : Bool) → (eqb b quote && not escaped) ≡ false →
    content_len escaped (b ∷ bytes) ≡ one_more (content_len (eqb b backslash && not escaped) bytes)
content_len-more b bytes true e =
    ap (λ v. one_more (content_len v bytes)) (sym (and_right (eqb b backslash) false refl))
content_len-more b bytes false e =
    ap (λ v. cond v (Some 0) (one_more (content_len (eqb b backslash) bytes))) (sym (and-true (eqb b quote)) ∙ e)
    ∙ ap (λ v. one_more (content_len v bytes)) (sym (and-true (eqb b backslash)))

-- what the test for the closing quote says where it fails
pub no_quote : (b : ℕ) (escaped : Bool) → ((b ≡ quote) × (escaped ≡ true)) ⊎ (b ≡ quote → ⊥) →
    (eqb b quote && not escaped) ≡ false
no_quote b escaped (inl h) = and_right (eqb b quote) (not escaped) (ap not h.1)
no_quote b escaped (inr n) = and_left (eqb b quote) (not escaped) (ne_eqb b quote n)

-- where the content doesn't end, its end from here on is its end from the next byte on
pub content-more : (buffer : List ℕ) (at b : ℕ) (escaped : Bool) → slice_get buffer at ≡ Some b →
    (eqb b quote && not escaped) ≡ false →
    option_map (λ n. (at + 1) + n) (content_len (eqb b backslash && not escaped) (drop (at + 1) buffer)) ≡
    option_map (λ n. at + n) (content_len escaped (drop at buffer))
content-more buffer at b escaped h e =
    sym (option_map-one_more at (content_len (eqb b backslash && not escaped) (drop (at + 1) buffer)))
    ∙ ap (option_map (λ n. at + n))
    (sym (content_len-more b (drop (at + 1) buffer) escaped e)
    ∙ ap (content_len escaped) (sym (drop-at_byte buffer at b h)))

-- at a quote that no backslash escapes it ends
pub content-ends : (buffer : List ℕ) (at : ℕ) → slice_get buffer at ≡ Some quote →
    Some at ≡ option_map (λ n. at + n) (content_len false (drop at buffer))
content-ends buffer at h = rw (drop-at_byte buffer at quote h) (ap Some (omega arith))

-- a backslash is seen up to the next byte, where it was before or is one
pub escapes-more : (buffer : List ℕ) (start end b : ℕ) (seen : Bool) → start ≤ end → slice_get buffer end ≡ Some b →
    seen ≡ list_any (λ x. eqb x backslash) (take (end - start) (drop start buffer)) →
    (seen || eqb b backslash) ≡ list_any (λ x. eqb x backslash) (take ((end + 1) - start) (drop start buffer))
escapes-more buffer start end b seen le h e =
    let is_mark : ℕ → Bool = λ x. eqb x backslash in
    let rest = drop start buffer in
    let i = end - start in
    let room = slice_get_within buffer end b h in
    let next : (end + 1) - start ≡ i + 1 = omega arith in
    let here : get_or rest i 0 ≡ b =
    get_or-drop start buffer i 0 ∙ ap (λ n. get_or buffer n 0) (omega arith)
    ∙ get_or_from_slice_get buffer end b 0 h in
    let more : list_any is_mark (take (i + 1) rest) ≡ (list_any is_mark (take i rest) || is_mark (get_or rest i 0)) =
    list_any_more is_mark rest i 0 (omega (arith, length-drop start buffer)) in
    ap₂ (λ x y. x || eqb y backslash) e (sym here) ∙ sym more ∙ ap (λ n. list_any is_mark (take n rest)) (sym next)

-- a string whose content ends at an offset
pub cut_text-ends : (at end : ℕ) (bytes : List ℕ) (has_escapes : Bool) (found : Option ℕ) →
    Some end ≡ option_map (λ n. (at + 1) + n) found →
    has_escapes ≡ list_any (λ x. eqb x backslash) (take (end - (at + 1)) bytes) →
    token_at (string (at + 1) end has_escapes) at ((end + 1) - at) ≡ cut_text at bytes found
cut_text-ends at end bytes has_escapes None e h = cc
cut_text-ends at end bytes has_escapes (Some n) e h =
    let there : end ≡ (at + 1) + n = cc in
    let start : at + 1 ≡ suc at = omega arith in
    let finish : end ≡ suc at + n = omega arith in
    let size : end - (at + 1) ≡ n = omega arith in
    let len : (end + 1) - at ≡ suc (suc n) = omega arith in
    let escapes : has_escapes ≡ list_any (λ x. eqb x backslash) (take n bytes) =
    h ∙ ap (λ k. list_any (λ x. eqb x backslash) (take k bytes)) size in
    ap₂ (λ k l. token_at k at l)
    (ap₂ (λ s f. string s f has_escapes) start finish ∙ ap (string (suc at) (suc at + n)) escapes) len
