-- A run of bytes that pass q, seen a window at a time.
use Rattle.std.proofs.Common.{◌≡◌, ℕ, zero, suc, ◌+◌, ◌-◌, ◌*◌, ◌<◌, ◌≤◌, Bool, true, false, not, inl, inr, cond, eqb, List, [], ◌∷◌, length, map, drop, refl, sym, ap, ◌∙◌, arith}
use Rattle.std.proofs.lemmas.Simd.{chunk-drop, length-chunk, leading_from_mask_l, trailing_mask_l}
use Rattle.std.proofs.lemmas.List.{drop-drop, length-drop, take_all}
use Rattle.std.proofs.lemmas.List.Folds.{prefix_len-append}
use Rattle.std.proofs.lemmas.List.Sums.{prefix_len-le-length}
use Rattle.std.proofs.lemmas.Bool.{eq-eqb, ne_eqb, cases_order}
use Rattle.std.specs.List.{prefix_len}
use lib.Lanes.{chunk, mask_l}
use lib.Count.{count_trailing_zeros}

split : (q : ℕ → Bool) (d : List ℕ) (i n : ℕ)
    → prefix_len q (drop i d) ≡ cond (eqb (prefix_len q (chunk i n d)) (length (chunk i n d))) (length (chunk i n d) + prefix_len q (drop (i + n) d)) (prefix_len q (chunk i n d))
split q d i n = ap (prefix_len q) (chunk-drop i n d) ∙ prefix_len-append q (chunk i n d) (drop (i + n) d)

-- a window all of whose bytes pass is passed
pub run_through : (q : ℕ → Bool) (d : List ℕ) (i n : ℕ) → i + n ≤ length d → prefix_len q (chunk i n d) ≡ n → prefix_len q (drop i d) ≡ n + prefix_len q (drop (i + n) d)
run_through q d i n room all =
    let c = chunk i n d in
    let long = length-chunk i n d room in
    split q d i n ∙ ap (λ b. cond b (length c + prefix_len q (drop (i + n) d)) (prefix_len q c)) (eq-eqb _ _ (all ∙ sym long))
    ∙ ap (λ k. k + prefix_len q (drop (i + n) d)) long

-- in another the run ends
pub run_stops : (q : ℕ → Bool) (d : List ℕ) (i n : ℕ) → i + n ≤ length d → prefix_len q (chunk i n d) < n → prefix_len q (drop i d) ≡ prefix_len q (chunk i n d)
run_stops q d i n room some =
    let c = chunk i n d in
    let long = length-chunk i n d room in
    split q d i n ∙ ap (λ b. cond b (length c + prefix_len q (drop (i + n) d)) (prefix_len q c)) (ne_eqb _ _ (λ (e : prefix_len q c ≡ length c). omega (arith, e, long)))

-- in the last one too
pub run_last : (q : ℕ → Bool) (d : List ℕ) (i n : ℕ) → i + n ≡ length d → prefix_len q (drop i d) ≡ prefix_len q (chunk i n d)
run_last q d i n e = ap (prefix_len q) (sym (take_all n (drop i d) (omega (arith, length-drop i d))))

rest_of_run : (q : ℕ → Bool) (xs : List ℕ) (k : ℕ) → k ≤ prefix_len q xs → prefix_len q xs ≡ k + prefix_len q (drop k xs)
rest_of_run q xs zero h = omega arith
rest_of_run q [] (suc k) h = absurd (omega arith)
rest_of_run q (x ∷ xs) (suc k) h = by (q x) h (rest_of_run q xs k)
  where
    by : (b : Bool) → suc k ≤ cond b (1 + prefix_len q xs) 0 → (k ≤ prefix_len q xs → prefix_len q xs ≡ k + prefix_len q (drop k xs))
        → cond b (1 + prefix_len q xs) 0 ≡ suc k + prefix_len q (drop k xs)
    by true h rest = let e = rest (omega arith) in omega arith
    by false h rest = absurd (omega arith)

-- a run ends at the same place, seen from any place within it
pub run_within : (q : ℕ → Bool) (d : List ℕ) (i j : ℕ) → i ≤ j → j ≤ i + prefix_len q (drop i d) → i + prefix_len q (drop i d) ≡ j + prefix_len q (drop j d)
run_within q d i j le within =
    let k = j - i in
    let rest = rest_of_run q (drop i d) k (omega arith) in
    let there : i + k ≡ j = omega arith in
    let same = drop-drop k i d ∙ ap (λ m. drop m d) there in
    omega (arith, rest, ap (prefix_len q) same)

-- ---- by the mask of the bytes that don't pass

none_fails : (b : Bool) (n l m : ℕ) → n ≤ l → cond (not b) (1 + n) 0 ≡ 1 + l → (n ≡ l → m ≡ 0) → cond b 1 0 + 2 * m ≡ 0
none_fails true n l m le e ih = absurd (omega arith)
none_fails false n l m le e ih = let z = ih (omega arith) in omega arith

all_pass : (p : ℕ → Bool) (xs : List ℕ) → prefix_len (λ x. not (p x)) xs ≡ length xs → mask_l (map p xs) ≡ 0
all_pass p [] e = refl
all_pass p (x ∷ xs) e = none_fails (p x) _ (length xs) _ (prefix_len-le-length (λ y. not (p y)) xs) (omega arith) (all_pass p xs)

some_fails : (p : ℕ → Bool) (v : List ℕ) (n : ℕ) → length v ≡ n → 0 < mask_l (map p v) → prefix_len (λ x. not (p x)) v < n
some_fails p v n long some =
    let bound = prefix_len-le-length (λ x. not (p x)) v in
    elim (cases_order (prefix_len (λ x. not (p x)) v) n) [
      | inl e ↦ absurd (let none = all_pass p v (e ∙ sym long) in omega (arith, none, some))
      | inr (inl l) ↦ l
      | inr (inr g) ↦ absurd (omega (arith, bound, g, long))
    ]

-- a window without a bit is passed
pub mask_through : (p : ℕ → Bool) (d : List ℕ) (i n : ℕ) → i + n ≤ length d → mask_l (map p (chunk i n d)) ≡ 0 →
    prefix_len (λ x. not (p x)) (drop i d) ≡ n + prefix_len (λ x. not (p x)) (drop (i + n) d)
mask_through p d i n room none =
    run_through (λ x. not (p x)) d i n room (leading_from_mask_l p (chunk i n d) none ∙ length-chunk i n d room)

-- in another the run ends at the first bit
pub mask_stops : (p : ℕ → Bool) (d : List ℕ) (i n : ℕ) → i + n ≤ length d → n ≤ 64 → 0 < mask_l (map p (chunk i n d)) →
    prefix_len (λ x. not (p x)) (drop i d) ≡ count_trailing_zeros 64 (mask_l (map p (chunk i n d)))
mask_stops p d i n room small some =
    let c = chunk i n d in
    let long = length-chunk i n d room in
    run_stops (λ x. not (p x)) d i n room (some_fails p c n long some)
    ∙ sym (trailing_mask_l p 64 c (omega (arith, long)) some)

-- which is within it
pub mask_within : (p : ℕ → Bool) (d : List ℕ) (i n : ℕ) → i + n ≤ length d → n ≤ 64 → 0 < mask_l (map p (chunk i n d)) →
    count_trailing_zeros 64 (mask_l (map p (chunk i n d))) < n
mask_within p d i n room small some =
    let c = chunk i n d in
    let long = length-chunk i n d room in
    omega (arith, trailing_mask_l p 64 c (omega (arith, long)) some, some_fails p c n long some)
