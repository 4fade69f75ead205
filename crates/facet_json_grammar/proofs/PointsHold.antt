-- What holds of every point that is kept: of one that is found, and of the others where one is used up.
use Rattle.std.proofs.Common.{◌≡◌, ℕ, Bool, true, false, cond, ◌==◌, List, [], ◌∷◌, Option, Some, subst}
use Rattle.std.specs.List.{All}
use Rattle.std.proofs.lemmas.List.Elements.{All-cons, All-head, All-tail, All-push}
use Rattle.facet_format.specs.Kept.{found, without, with_point}

module _ {S : Type 0} (Q : S → Type 0) where
  found_by : (b : Bool) (s t : S) (o : Option S) → Q t → (o ≡ Some s → Q s) → cond b (Some t) o ≡ Some s → Q s
  found_by true s t o q h e = let same : t ≡ s = cc in subst Q same q
  found_by false s t o q h e = h e

  -- It holds of a point that is found.
  pub found-holds : (number : ℕ) (s : S) (points : List (ℕ × S)) → All (λ point. Q point.1) points →
      found number points ≡ Some s → Q s
  found-holds number s [] all e = cc
  found-holds number s (point ∷ points) all e =
      found_by (point.0 == number) s point.1 (found number points) (All-head (λ p. Q p.1) point points all)
      (found-holds number s points (All-tail (λ p. Q p.1) point points all)) e

  without_by : (b : Bool) (point : ℕ × S) (rest : List (ℕ × S)) → Q point.1 → All (λ p. Q p.1) rest →
      All (λ p. Q p.1) (cond b rest (point ∷ rest))
  without_by true point rest q all = all
  without_by false point rest q all = All-cons (λ p. Q p.1) point rest q all

  -- It holds of the points under other numbers.
  pub without-holds : (number : ℕ) (points : List (ℕ × S)) → All (λ point. Q point.1) points →
      All (λ point. Q point.1) (without number points)
  without-holds number [] all = all
  without-holds number (point ∷ points) all =
      without_by (point.0 == number) point (without number points) (All-head (λ p. Q p.1) point points all)
      (without-holds number points (All-tail (λ p. Q p.1) point points all))

  -- It holds with one more point of which it holds.
  pub with_point-holds : (number : ℕ) (s : S) (points : List (ℕ × S)) → All (λ point. Q point.1) points → Q s →
      All (λ point. Q point.1) (with_point number s points)
  with_point-holds number s points all q = All-push (λ p. Q p.1) points (number, s) all q
