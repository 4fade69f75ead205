-- Points that are kept: one more, and one used up.
use Rattle.std.proofs.Common.{◌≡◌, ◌≢◌, ℕ, suc, ◌<◌, Bool, true, false, cond, ◌==◌, List, [], ◌∷◌, Option, Some, None, refl, sym, ap, ◌∙◌, arith}
use Rattle.std.proofs.lemmas.Bool.{eqb-true, eq-eqb, ne_eqb}
use Rattle.facet_format.specs.Kept.{found, without, with_point}

-- No point has a greater number.
abbrev pub AreUpTo : {S : Type 0} → ℕ → List (ℕ × S) → Type 0
AreUpTo counter points = (number : ℕ) → counter < number → found number points ≡ None

module _ {S : Type 0} where
  new_by : (b : Bool) (s t : S) (o p : Option S) → cond b (Some t) o ≡ None → (o ≡ None → p ≡ Some s) → cond b (Some t) p ≡ Some s
  new_by true s t o p e h = cc
  new_by false s t o p e h = h e

  -- A new point is found under its number.
  pub found-new : (number : ℕ) (s : S) (points : List (ℕ × S)) → found number points ≡ None →
      found number (with_point number s points) ≡ Some s
  found-new number s [] e = rw (eq-eqb number number refl) refl
  found-new number s (point ∷ points) e =
      new_by (point.0 == number) s point.1 (found number points) (found number (with_point number s points)) e (found-new number s points)

  -- Other points stay where there is a new one.
  pub found-other : (number other : ℕ) (s : S) (points : List (ℕ × S)) → number ≢ other →
      found number (with_point other s points) ≡ found number points
  found-other number other s [] e = rw (ne_eqb other number (λ q. e (sym q))) refl
  found-other number other s (point ∷ points) e =
      ap (cond (point.0 == number) (Some point.1)) (found-other number other s points e)

  used_by : (b : Bool) (number : ℕ) (point : ℕ × S) (rest : List (ℕ × S)) → (point.0 == number) ≡ b →
      found number rest ≡ None → found number (cond b rest (point ∷ rest)) ≡ None
  used_by true number point rest e h = h
  used_by false number point rest e h = rw e h

  -- A point that was used up is not found again.
  pub found-used : (number : ℕ) (points : List (ℕ × S)) → found number (without number points) ≡ None
  found-used number [] = refl
  found-used number (point ∷ points) =
      used_by (point.0 == number) number point (without number points) refl (found-used number points)

  kept_by : (b : Bool) (number other : ℕ) (point : ℕ × S) (rest points : List (ℕ × S)) → (point.0 == other) ≡ b →
      number ≢ other → found number rest ≡ found number points →
      found number (cond b rest (point ∷ rest)) ≡ found number (point ∷ points)
  kept_by true number other point rest points e n h =
      let same = eqb-true point.0 other e in
      rw (ne_eqb point.0 number (λ q. n (sym q ∙ same))) h
  kept_by false number other point rest points e n h = ap (cond (point.0 == number) (Some point.1)) h

  -- Other points stay where one is used up.
  pub found-kept : (number other : ℕ) (points : List (ℕ × S)) → number ≢ other →
      found number (without other points) ≡ found number points
  found-kept number other [] n = refl
  found-kept number other (point ∷ points) n =
      kept_by (point.0 == other) number other point (without other points) points refl n (found-kept number other points n)

  lost_by : (b c : Bool) (number : ℕ) (point : ℕ × S) (rest points : List (ℕ × S)) → (point.0 == number) ≡ c →
      cond c (Some point.1) (found number points) ≡ None → (found number points ≡ None → found number rest ≡ None) →
      found number (cond b rest (point ∷ rest)) ≡ None
  lost_by b true number point rest points e h more = cc
  lost_by true false number point rest points e h more = more h
  lost_by false false number point rest points e h more = rw e (more h)

  -- What is not found is not found where a point is used up.
  pub found-lost : (number other : ℕ) (points : List (ℕ × S)) → found number points ≡ None →
      found number (without other points) ≡ None
  found-lost number other [] e = refl
  found-lost number other (point ∷ points) e =
      lost_by (point.0 == other) (point.0 == number) number point (without other points) points refl e (found-lost number other points)

  -- The next number is greater than all others.
  pub up_to-new : (counter : ℕ) (s : S) (points : List (ℕ × S)) → AreUpTo counter points →
      AreUpTo (suc counter) (with_point (suc counter) s points)
  up_to-new counter s points h number less =
      let other : number ≢ suc counter = λ q. absurd (omega (arith, q)) in
      found-other number (suc counter) s points other ∙ h number (omega arith)

  -- Where a point is used up, no number is greater than before.
  pub up_to-used : (counter point : ℕ) (points : List (ℕ × S)) → AreUpTo counter points → AreUpTo counter (without point points)
  up_to-used counter point points h number less = found-lost number point points (h number less)
