-- Points that are kept: one more, and one taken out, by its place in the list.
use Rattle.std.proofs.Common.{◌≡◌, ◌≢◌, ℕ, zero, suc, ◌+◌, ◌<◌, ◌≤◌, Bool, true, false, cond, ◌==◌, List, [], ◌∷◌, map, length, Option, Some, None, refl, sym, ap, subst, ◌∙◌, arith}
use Rattle.std.specs.Prelude.{slice_index_or, MatchOption}
use Rattle.std.specs.List.{All, remove}
use Rattle.std.proofs.lemmas.List.Elements.{All-head, All-tail}
use Rattle.facet_json_parser.specs.declared.points.Point.{Point}
use Rattle.std.proofs.lemmas.Bool.{eq-eqb, ne_eqb}
use Rattle.facet_format.specs.Complaint.{Refusal}
use Rattle.facet_format.specs.Cursor.{greatest}
use Rattle.facet_format.specs.Kept.{found, without, with_point}
use Rattle.facet_format.proofs.KeptLaws.{found-other, found-lost}
use Rattle.facet_json_grammar.specs.Language.{Language}
use Rattle.facet_json_parser.specs.Lookahead.{Lookahead}
use Rattle.facet_json_parser.specs.Ready.{IsSound, ArePoints, IsReady}
use Rattle.facet_json_parser.specs.Views.{lookahead_of, point_of}

absent : (o : Option Lookahead) (f : Lookahead) → o ≡ None → o ≡ Some f → ⊥
absent o f e g = cc

-- ---- the counter

-- A counter that cannot grow by one is at its end.
pub at-greatest : (counter : ℕ) → (counter + 1 < 0x1_0000_0000_0000_0000 → ⊥) → counter ≤ greatest → counter ≡ greatest
at-greatest counter full fits = omega (arith, full, fits)

pub below-greatest : (counter : ℕ) → counter + 1 < 0x1_0000_0000_0000_0000 → counter < greatest
below-greatest counter h = omega (arith, h)

pub next-number : (counter n : ℕ) → n ≡ counter + 1 → n ≡ suc counter
next-number counter n e = omega (arith, e)

module _ (buffer : List ℕ) (language : Language) where
  -- ---- one more

  up_to-new : (counter : ℕ) (f : Lookahead) (points : List (ℕ × Lookahead)) → IsSound buffer language f →
      ArePoints buffer language counter points → ArePoints buffer language (suc counter) (with_point (suc counter) f points)
  up_to-new counter f [] s a = (s, omega arith, refl, tt)
  up_to-new counter f (point ∷ points) s a =
      let less : point.0 ≤ counter = a.1 in
      let other : point.0 ≢ suc counter = λ q. absurd (omega (arith, q, less)) in
      (a.0, omega (arith, less), found-other point.0 (suc counter) f points other ∙ a.2, up_to-new counter f points s a.3)

  -- A parser that keeps where it stands under the next number is ready.
  pub new-ready : (f : Lookahead) (refusal : Option Refusal) (points kept : List (ℕ × Lookahead)) (counter n : ℕ) →
      IsReady buffer language f refusal points counter → counter < greatest → n ≡ suc counter → kept ≡ with_point n f points →
      IsReady buffer language f refusal kept n
  new-ready f refusal points kept counter n r less same list =
      rw (list, same) (record {
        stands = r.stands;
        refused = r.refused;
        keeps = up_to-new counter f points r.stands r.keeps;
        counter_fits = omega (arith, less);
      })

  -- ---- the next number

  -- No point has a number above the counter.
  pub above-missing : (counter number : ℕ) (points : List (ℕ × Lookahead)) → ArePoints buffer language counter points → counter < number →
      found number points ≡ None
  above-missing counter number [] a h = refl
  above-missing counter number (point ∷ points) a h =
      let less : point.0 ≤ counter = a.1 in
      let other : point.0 ≢ number = λ e. absurd (omega (arith, less, e, h)) in
      rw (ne_eqb point.0 number other) (above-missing counter number points a.3 h)

  -- ---- one taken out

  used_by : (same : Bool) (counter number : ℕ) (point : ℕ × Lookahead) (points : List (ℕ × Lookahead)) →
      ArePoints buffer language counter (point ∷ points) → ArePoints buffer language counter (without number points) →
      ArePoints buffer language counter (cond same (without number points) (point ∷ without number points))
  used_by true counter number point points a more = more
  used_by false counter number point points a more = (a.0, a.1, found-lost point.0 number points a.2, more)

  -- Without the points of a number the others stay.
  points-without : (counter number : ℕ) (points : List (ℕ × Lookahead)) → ArePoints buffer language counter points →
      ArePoints buffer language counter (without number points)
  points-without counter number [] a = tt
  points-without counter number (point ∷ points) a =
      used_by (point.0 == number) counter number point points a (points-without counter number points a.3)

  sound_by : (same : Bool) (point : ℕ × Lookahead) (f : Lookahead) (o : Option Lookahead) → IsSound buffer language point.1 →
      (o ≡ Some f → IsSound buffer language f) → cond same (Some point.1) o ≡ Some f → IsSound buffer language f
  sound_by true point f o s more e =
      let same : point.1 ≡ f = cc in subst (IsSound buffer language) same s
  sound_by false point f o s more e = more e

  -- What is kept is sound.
  found-sound : (counter number : ℕ) (f : Lookahead) (points : List (ℕ × Lookahead)) → ArePoints buffer language counter points →
      found number points ≡ Some f → IsSound buffer language f
  found-sound counter number f [] a e = cc
  found-sound counter number f (point ∷ points) a e =
      sound_by (point.0 == number) point f (found number points) a.0 (found-sound counter number f points a.3) e

  -- A parser that is back at a kept point is ready.
  pub old-ready : (f : Lookahead) (refusal : Option Refusal) (points kept : List (ℕ × Lookahead)) (counter number : ℕ) (g : Lookahead) →
      IsReady buffer language f refusal points counter → found number points ≡ Some g → kept ≡ without number points →
      IsReady buffer language g None kept counter
  old-ready f refusal points kept counter number g r here list =
      rw list (record {
        stands = found-sound counter number g points r.keeps here;
        refused = tt;
        keeps = points-without counter number points r.keeps;
        counter_fits = r.counter_fits;
      })

  -- A parser that dropped a point is ready.
  pub dropped-ready : (f : Lookahead) (refusal : Option Refusal) (points kept : List (ℕ × Lookahead)) (counter number : ℕ) →
      IsReady buffer language f refusal points counter → kept ≡ without number points → IsReady buffer language f refusal kept counter
  dropped-ready f refusal points kept counter number r list =
      rw list (record {
        stands = r.stands;
        refused = r.refused;
        keeps = points-without counter number points r.keeps;
        counter_fits = r.counter_fits;
      })

missing_by : {S : Type 0} (same : Bool) (number : ℕ) (point : ℕ × S) (points : List (ℕ × S)) →
    (found number points ≡ None → without number points ≡ points) → cond same (Some point.1) (found number points) ≡ None →
    cond same (without number points) (point ∷ without number points) ≡ point ∷ points
missing_by true number point points more e = cc
missing_by false number point points more e = ap (λ ps. point ∷ ps) (more e)

-- Where no point has the number, without it all stay.
pub without-missing : {S : Type 0} (number : ℕ) (points : List (ℕ × S)) → found number points ≡ None → without number points ≡ points
without-missing number [] e = refl
without-missing number (point ∷ points) e =
    missing_by (point.0 == number) number point points (without-missing number points) e

-- What follows whether a point was taken out or none is kept.
pub either_way : {A G : Type 0} (N : Type 0) (P : A → Type 0) (o : Option A) → (N → G) → ((a : A) → P a → G) → MatchOption o N P → G
either_way N P None none some is = none is
either_way N P (Some a) none some is = some a is

-- ---- points of the code

-- Where no point of the code has the number, none is found.
pub all-missing : (number : ℕ) (points : List Point) → All (λ p. p.number ≢ number) points →
    found number (map point_of points) ≡ None
all-missing number [] a = refl
all-missing number (p ∷ points) a =
    rw (ne_eqb p.number number (All-head (λ q. q.number ≢ number) p points a))
    (all-missing number points (All-tail (λ q. q.number ≢ number) p points a))

-- The point at this place of the list is found, and the others stay without it.
pub record IsTakenOut (number : ℕ) (points : List Point) (i : ℕ) (p : Point) : Type 0 where
  pub here : found number (map point_of points) ≡ Some (lookahead_of p.lookahead)
  pub others : map point_of (remove points i) ≡ without number (map point_of points)

pub point-taken : (buffer : List ℕ) (language : Language) (counter number : ℕ) (points : List Point) (i : ℕ) (d : Point) →
    i < length points → (slice_index_or points i d).number ≡ number → ArePoints buffer language counter (map point_of points) →
    IsTakenOut number points i (slice_index_or points i d)
point-taken buffer language counter number [] i d h same a = absurd (omega (arith, h))
point-taken buffer language counter number (p ∷ points) zero d h same a =
    let e : p.number ≡ number = same in
    let none : found number (map point_of points) ≡ None = subst (λ x. found x (map point_of points) ≡ None) e a.2 in
    record {
      here = rw (eq-eqb p.number number e) refl;
      others = rw (eq-eqb p.number number e) (sym (without-missing number (map point_of points) none));
    }
point-taken buffer language counter number (p ∷ points) (suc i) d h same a =
    let more = point-taken buffer language counter number points i d (omega (arith, h)) same a.3 in
    let other : p.number ≢ number = λ e. absent (found number (map point_of points)) _
    (subst (λ x. found x (map point_of points) ≡ None) e a.2) more.here in
    record {
      here = rw (ne_eqb p.number number other) more.here;
      others = rw (ne_eqb p.number number other) (ap (λ ps. point_of p ∷ ps) more.others);
    }

pub taken-out : (number : ℕ) (points left : List Point) (i : ℕ) (p : Point) →
    IsTakenOut number points i (slice_index_or points i p) → p ≡ slice_index_or points i p → left ≡ remove points i →
    (found number (map point_of points) ≡ Some (lookahead_of p.lookahead)) × (map point_of left ≡ without number (map point_of points))
taken-out number points left i p t e f = (t.here ∙ ap (λ q. Some (lookahead_of q.lookahead)) (sym e), ap (map point_of) f ∙ t.others)
