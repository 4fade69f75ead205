-- A stable sort leaves what is left by inserting one element after the other.
use Rattle.std.proofs.Common.{◌≡◌, ℕ, suc, ◌<◌, ◌≤◌, Bool, true, false, not, List, [], ◌∷◌, length, get_or, if◌then◌else◌, refl, sym, ap, subst, ◌∙◌, arith}
use Rattle.std.specs.Prelude.{◌&&◌, cond, ⊤}
use Rattle.std.specs.Cmp.{IsStrictWeakOrder}
use Rattle.std.specs.List.{AllByRecursion, filter}
use Rattle.std.specs.List.Sorted.{IsSortedBy, IsStableBy, ties}
use Rattle.std.proofs.lemmas.List.Sorted.{sorted_far}

-- ---- tests

never : (b : Bool) → (b ≡ true → b ≡ false) → b ≡ false
never true h = h refl
never false h = refl

both_not : (a b : Bool) → not a && not b ≡ true → (a ≡ false) × (b ≡ false)
both_not true b e = cc
both_not false true e = cc
both_not false false e = (refl, refl)

other_so : (a b : Bool) → a ≡ false → not a && not b ≡ false → b ≡ true
other_so true b h e = cc
other_so false true h e = refl
other_so false false h e = cc

module _ {X : Type 0} where
  -- two elements of which at most one is kept may change places
  change_places : (a b : Bool) (x y : X) (xs : List X) → (a ≡ true → b ≡ true → ⊥)
      → cond b (y ∷ cond a (x ∷ xs) xs) (cond a (x ∷ xs) xs) ≡ cond a (x ∷ cond b (y ∷ xs) xs) (cond b (y ∷ xs) xs)
  change_places true true x y xs h = absurd (h refl refl)
  change_places true false x y xs h = refl
  change_places false true x y xs h = refl
  change_places false false x y xs h = refl

  without_first : (b : Bool) (x : X) (xs ys : List X) → cond b (x ∷ xs) xs ≡ cond b (x ∷ ys) ys → xs ≡ ys
  without_first true x xs ys e = cc
  without_first false x xs ys e = e

  module _ (lt : X → X → Bool) where
    -- ---- insertion

    -- x among the others, after those that are before it
    abbrev pub put : X → List X → List X
    put x [] = x ∷ []
    put x (y ∷ ys) = if lt y x then y ∷ put x ys else x ∷ y ∷ ys

    abbrev pub put_all : List X → List X
    put_all [] = []
    put_all (x ∷ xs) = put x (put_all xs)

    abbrev NoneBefore : X → List X → Type 0
    NoneBefore x ys = AllByRecursion (λ y. lt y x ≡ false) ys

    abbrev Ascends : List X → Type 0
    Ascends [] = ⊤
    Ascends (x ∷ xs) = NoneBefore x xs × Ascends xs

    put-first : (x : X) (ys : List X) → NoneBefore x ys → put x ys ≡ x ∷ ys
    put-first x [] h = refl
    put-first x (y ∷ ys) h = rw h.0 refl

    put-later : (x y : X) (ys : List X) → lt y x ≡ true → put x (y ∷ ys) ≡ y ∷ put x ys
    put-later x y ys h = rw h refl

    all_by : (P : X → Type 0) (x y : X) (ys : List X) (b : Bool) → AllByRecursion P (if b then y ∷ put x ys else x ∷ y ∷ ys)
        → (AllByRecursion P (put x ys) → P x × AllByRecursion P ys) → P x × (P y × AllByRecursion P ys)
    all_by P x y ys true h later = let l = later h.1 in (l.0, (h.0, l.1))
    all_by P x y ys false h later = h

    all-put : (P : X → Type 0) (x : X) (ys : List X) → AllByRecursion P (put x ys) → P x × AllByRecursion P ys
    all-put P x [] h = h
    all-put P x (y ∷ ys) h = all_by P x y ys (lt y x) h (all-put P x ys)

    none_before_of : (x : X) (xs : List X) → ((k : ℕ) → k < length xs → lt (get_or xs k x) x ≡ false) → NoneBefore x xs
    none_before_of x [] h = tt
    none_before_of x (y ∷ ys) h = (h 0 (omega arith), none_before_of x ys (λ k p. h (suc k) (omega arith)))

    ascends_of : (xs : List X) → ((i j : ℕ) (d : X) → i ≤ j → j < length xs → lt (get_or xs j d) (get_or xs i d) ≡ false) → Ascends xs
    ascends_of [] h = tt
    ascends_of (x ∷ xs) h =
        (none_before_of x xs (λ k p. h 0 (suc k) x (omega arith) (omega arith)), ascends_of xs (λ i j d p q. h (suc i) (suc j) d (omega arith) (omega arith)))

    module _ (o : IsStrictWeakOrder lt) where
      -- ---- which elements tie

      ties-itself : (x : X) → ties lt x x ≡ true
      ties-itself x = rw (never (lt x x) (o.one_way x x)) refl

      ties-both : (x y z : X) → ties lt z x ≡ true → ties lt z y ≡ true → ties lt x y ≡ true
      ties-both x y z p q =
          let a = both_not (lt z x) (lt x z) p in
          let b = both_not (lt z y) (lt y z) q in
          rw (o.chain x z y a.1 b.0, o.chain y z x b.1 a.0) refl

      -- ---- what is left without the first of those that tie with x

      record Taken (x : X) (ys : List X) : Type 0 where
        rest : List X
        is : ys ≡ put x rest
        up : Ascends rest
        same : (z : X) → filter (ties lt z) ys ≡ filter (ties lt z) (x ∷ rest)

      taken_by : (x y : X) (ys others : List X) (b : Bool) → ties lt x y ≡ b → Ascends (y ∷ ys)
          → cond b (y ∷ filter (ties lt x) ys) (filter (ties lt x) ys) ≡ x ∷ others
          → (filter (ties lt x) ys ≡ x ∷ others → Taken x ys) → Taken x (y ∷ ys)
      taken_by x y ys others true tie up e later =
          let first : y ≡ x = cc in
          record {
            rest = ys;
            is = ap (λ a. a ∷ ys) first ∙ sym (put-first x ys (subst (λ a. NoneBefore a ys) first up.0));
            up = up.1;
            same = λ z. ap (λ a. filter (ties lt z) (a ∷ ys)) first;
          }
      taken_by x y ys others false tie up e later =
          let t = later e in
          let parts = all-put (λ a. lt a y ≡ false) x t.rest (subst (AllByRecursion (λ a. lt a y ≡ false)) t.is up.0) in
          let before = other_so (lt x y) (lt y x) parts.0 tie in
          record {
            rest = y ∷ t.rest;
            is = ap (λ l. y ∷ l) t.is ∙ sym (put-later x y t.rest before);
            up = (parts.1, t.up);
            same = λ z.
                ap (λ l. cond (ties lt z y) (y ∷ l) l) (t.same z)
                ∙ change_places (ties lt z x) (ties lt z y) x y (filter (ties lt z) t.rest)
                (λ p q. let h = sym (ties-both x y z p q) ∙ tie in cc);
          }

      taken : (x : X) (ys others : List X) → Ascends ys → filter (ties lt x) ys ≡ x ∷ others → Taken x ys
      taken x [] others up e = cc
      taken x (y ∷ ys) others up e = taken_by x y ys others (ties lt x y) refl up e (taken x ys others up.1)

      -- ---- a stable sort

      kept_itself : (x : X) (xs : List X) → filter (ties lt x) (x ∷ xs) ≡ x ∷ filter (ties lt x) xs
      kept_itself x xs = ap (λ b. cond b (x ∷ filter (ties lt x) xs) (filter (ties lt x) xs)) (ties-itself x)

      by_insertion : (xs ys : List X) → Ascends ys → IsStableBy lt xs ys → ys ≡ put_all xs
      by_insertion [] [] up stable = refl
      by_insertion [] (y ∷ ys) up stable = let h = sym (kept_itself y ys) ∙ stable y in cc
      by_insertion (x ∷ xs) ys up stable =
          let t = taken x ys (filter (ties lt x) xs) up (stable x ∙ kept_itself x xs) in
          let rest : IsStableBy lt xs t.rest = λ z. without_first (ties lt z x) x _ _ (sym (t.same z) ∙ stable z) in
          t.is ∙ ap (put x) (by_insertion xs t.rest t.up rest)

      pub stable-is_by_insertion : (xs ys : List X) → IsSortedBy lt ys → IsStableBy lt xs ys → ys ≡ put_all xs
      stable-is_by_insertion xs ys sorted stable = by_insertion xs ys (ascends_of ys (sorted_far lt o ys sorted)) stable
