-- The content of a string after a run of bytes that neither end it nor escape the next one.
use Rattle.std.proofs.Common.{◌≡◌, ℕ, zero, suc, ◌+◌, ◌-◌, ◌<◌, ◌≤◌, Bool, true, false, not, ◌||◌, cond, eqb, List, [], ◌∷◌, length, get_or, take, drop, slice_get, Option, Some, None, refl, ap, ap₂, sym, ◌∙◌, arith}
use Rattle.std.proofs.lemmas.List.{drop-drop, drop_all}
use Rattle.std.proofs.lemmas.Bool.{and_right, or_right, ne_eqb, eqb-true, not-false}
use Rattle.std.proofs.lemmas.Option.{slice_get-get_or}
use Rattle.std.specs.List.{list_any, prefix_len}
use Rattle.std.specs.Option.{option_map}
use Rattle.facet_format.specs.Bytes.{quote, backslash}
use Rattle.facet_json_token.specs.GapLen.{one_more}
use Rattle.facet_json_token.specs.Cut.{content_len}
use Rattle.facet_json_token.specs.Inner.Window.{is_stop, is_plain}
use Rattle.facet_json_token.proofs.Offsets.{drop-at_byte}
use Rattle.facet_json_token.proofs.RunEnds.{ends-run}
use Rattle.facet_json_token.proofs.TextSteps.{content-more, escapes-more}

pub none_ahead : (o : Option ℕ) → o ≡ option_map (λ n. 0 + n) o
none_ahead None = refl
none_ahead (Some n) = ap Some (omega arith)

pub one_ahead : (k : ℕ) (o : Option ℕ) → one_more (option_map (λ n. k + n) o) ≡ option_map (λ n. (1 + k) + n) o
one_ahead k None = refl
one_ahead k (Some n) = ap Some (omega arith)

pub both_ahead : (start k : ℕ) (o : Option ℕ) → option_map (λ n. start + n) (option_map (λ n. k + n) o) ≡ option_map (λ n. (start + k) + n) o
both_ahead start k None = refl
both_ahead start k (Some n) = ap Some (omega arith)

-- after one byte, which is a quote, a backslash or neither
content-step : (is_quote is_mark : Bool) (b : ℕ) (bytes : List ℕ) (k : ℕ) →
    content_len false bytes ≡ option_map (λ n. k + n) (content_len false (drop k bytes)) →
    cond is_quote (Some 0) (one_more (content_len is_mark bytes)) ≡ content_len false (b ∷ bytes) →
    cond is_quote (Some 0) (one_more (content_len is_mark bytes)) ≡
    option_map (λ n. cond (not (is_quote || is_mark)) (1 + k) 0 + n) (content_len false (drop (cond (not (is_quote || is_mark)) (1 + k) 0) (b ∷ bytes)))
content-step true is_mark b bytes k ih e = ap (option_map (λ n. 0 + n)) e
content-step false true b bytes k ih e = e ∙ none_ahead (content_len false (b ∷ bytes))
content-step false false b bytes k ih e =
    let next : suc k ≡ 1 + k = omega arith in
    ap one_more ih ∙ one_ahead k (content_len false (drop k bytes))
    ∙ ap (λ j. option_map (λ n. (1 + k) + n) (content_len false (drop j (b ∷ bytes)))) next

content-run : (bytes : List ℕ) → let k = prefix_len is_plain bytes in
    content_len false bytes ≡ option_map (λ n. k + n) (content_len false (drop k bytes))
content-run [] = refl
content-run (b ∷ bytes) = content-step (eqb b quote) (eqb b backslash) b bytes (prefix_len is_plain bytes) (content-run bytes) refl

mark-step : (is_quote is_mark : Bool) (b : ℕ) (bytes : List ℕ) (k : ℕ) → is_mark ≡ eqb b backslash →
    list_any (λ x. eqb x backslash) (take k bytes) ≡ false →
    list_any (λ x. eqb x backslash) (take (cond (not (is_quote || is_mark)) (1 + k) 0) (b ∷ bytes)) ≡ false
mark-step true is_mark b bytes k e ih = refl
mark-step false true b bytes k e ih = refl
mark-step false false b bytes k e ih =
    let next : 1 + k ≡ suc k = omega arith in
    ap (λ j. list_any (λ x. eqb x backslash) (take j (b ∷ bytes))) next ∙ ap₂ (λ x y. x || y) (sym e) ih

mark-run : (bytes : List ℕ) → list_any (λ x. eqb x backslash) (take (prefix_len is_plain bytes) bytes) ≡ false
mark-run [] = refl
mark-run (b ∷ bytes) = mark-step (eqb b quote) (eqb b backslash) b bytes (prefix_len is_plain bytes) refl (mark-run bytes)

-- the content's end is found after the run as well
pub content-after_run : (buffer : List ℕ) (start end : ℕ) → end ≡ start + prefix_len is_plain (drop start buffer) →
    option_map (λ n. end + n) (content_len false (drop end buffer)) ≡ option_map (λ n. start + n) (content_len false (drop start buffer))
content-after_run buffer start end e =
    let rest = drop start buffer in
    let k = prefix_len is_plain rest in
    ap (λ x. option_map (λ n. x + n) (content_len false (drop x buffer))) e
    ∙ sym (ap (option_map (λ n. start + n)) (content-run rest)
    ∙ both_ahead start k (content_len false (drop k rest))
    ∙ ap (λ l. option_map (λ n. (start + k) + n) (content_len false l)) (drop-drop k start buffer))

-- and no backslash stands in the run
pub marks-of_run : (buffer : List ℕ) (start end : ℕ) → end ≡ start + prefix_len is_plain (drop start buffer) →
    false ≡ list_any (λ x. eqb x backslash) (take (end - start) (drop start buffer))
marks-of_run buffer start end e =
    let len : end - start ≡ prefix_len is_plain (drop start buffer) = omega (arith, e) in
    sym (ap (λ n. list_any (λ x. eqb x backslash) (take n (drop start buffer))) len ∙ mark-run (drop start buffer))

-- what stands where the run ends is no plain byte
pub stop-after_run : (buffer : List ℕ) (from end b : ℕ) → end ≡ from + prefix_len is_plain (drop from buffer) →
    slice_get buffer end ≡ Some b → is_stop b ≡ true
stop-after_run buffer from end b e h = not-false (is_stop b) (ends-run is_plain buffer from end b e h)

-- a backslash and the byte after it, where there is one, are passed
pub content-after_escape : (buffer : List ℕ) (at : ℕ) → slice_get buffer at ≡ Some backslash → at + 2 ≤ length buffer →
    option_map (λ n. (at + 2) + n) (content_len false (drop (at + 2) buffer)) ≡ option_map (λ n. at + n) (content_len false (drop at buffer))
content-after_escape buffer at h room =
    let x = get_or buffer (at + 1) 0 in
    let next : (at + 1) + 1 ≡ at + 2 = omega arith in
    let here = slice_get-get_or buffer (at + 1) 0 (omega (arith, room)) in
    ap (λ k. option_map (λ n. k + n) (content_len false (drop k buffer))) (sym next)
    ∙ ap (λ v. option_map (λ n. ((at + 1) + 1) + n) (content_len v (drop ((at + 1) + 1) buffer))) (sym (and_right (eqb x backslash) false refl))
    ∙ content-more buffer (at + 1) x true here (and_right (eqb x quote) false refl)
    ∙ content-more buffer at backslash false h refl

-- after a backslash that nothing follows no content ends
pub content-at_end : (buffer : List ℕ) (at : ℕ) → slice_get buffer at ≡ Some backslash → at + 1 ≡ length buffer →
    option_map (λ n. length buffer + n) (content_len false (drop (length buffer) buffer)) ≡ option_map (λ n. at + n) (content_len false (drop at buffer))
content-at_end buffer at h last =
    ap (λ l. option_map (λ n. length buffer + n) (content_len false l)) (drop_all (length buffer) buffer (omega arith))
    ∙ sym (ap (λ l. option_map (λ n. at + n) (content_len false l))
    (drop-at_byte buffer at backslash h ∙ ap (λ l. backslash ∷ l) (drop_all (at + 1) buffer (omega (arith, last)))))

any-stays : (p : ℕ → Bool) (xs : List ℕ) (n m : ℕ) → n ≤ m → true ≡ list_any p (take n xs) → true ≡ list_any p (take m xs)
any-stays p xs zero m le e = cc
any-stays p [] (suc n) m le e = cc
any-stays p (x ∷ xs) (suc n) zero le e = absurd (omega arith)
any-stays p (x ∷ xs) (suc n) (suc m) le e = by (p x) (any-stays p xs n m (omega arith)) e
  where
    by : (b : Bool) → (true ≡ list_any p (take n xs) → true ≡ list_any p (take m xs)) → true ≡ (b || list_any p (take n xs)) → true ≡ (b || list_any p (take m xs))
    by true rest h = refl
    by false rest h = rest h

-- a backslash that was passed is seen from there on
pub marks-after_escape : (buffer : List ℕ) (start at end : ℕ) (seen : Bool) → start ≤ at → at < end → slice_get buffer at ≡ Some backslash →
    seen ≡ list_any (λ x. eqb x backslash) (take (at - start) (drop start buffer)) →
    true ≡ list_any (λ x. eqb x backslash) (take (end - start) (drop start buffer))
marks-after_escape buffer start at end seen le lt h e =
    let marked = sym (or_right seen true refl) ∙ escapes-more buffer start at backslash seen le h e in
    any-stays (λ x. eqb x backslash) (drop start buffer) ((at + 1) - start) (end - start) (omega arith) marked

-- a stop that is no quote is a backslash
pub stop-no_quote : (b : ℕ) → is_stop b ≡ true → (b ≡ quote → ⊥) → b ≡ backslash
stop-no_quote b e other = eqb-true b backslash (ap (λ v. v || eqb b backslash) (sym (ne_eqb b quote other)) ∙ e)
