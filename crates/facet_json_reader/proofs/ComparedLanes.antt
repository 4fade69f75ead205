-- Masks of comparisons whose bound is known only when the code runs: lane by lane, what the mask says of each byte.
use Rattle.std.proofs.Common.{◌≡◌, ℕ, ◌%◌, ◌^◌, ◌≤◌, Bool, true, false, ◌||◌, cond, List, [], ◌∷◌, map, length, refl, ap, ap₂, ◌∙◌, arith}
use Rattle.std.proofs.lemmas.Simd.{mask_l-mod}
use Rattle.std.proofs.lemmas.List.{length-map}
use lib.Bits.{bit_or}
use lib.Lanes.{zip2, mask_l, top}

-- the lane of a comparison that holds or not
abbrev pub lane : Bool → ℕ
lane holds = cond holds 255 0

lane-either : (a b : Bool) → bit_or (lane a) (lane b) ≡ lane (a || b)
lane-either true true = refl
lane-either true false = refl
lane-either false true = refl
lane-either false false = refl

lane-top : (a : Bool) → top 7 (lane a) ≡ a
lane-top true = refl
lane-top false = refl

-- Either of two comparisons, lane by lane.
pub lanes-either : (p q : ℕ → Bool) (v : List ℕ) {a b : List ℕ} → a ≡ map (λ x. lane (p x)) v → b ≡ map (λ x. lane (q x)) v →
    zip2 bit_or a b ≡ map (λ x. lane (p x || q x)) v
lanes-either p q v first second = ap₂ (zip2 bit_or) first second ∙ each v
  where
    each : (v : List ℕ) → zip2 bit_or (map (λ x. lane (p x)) v) (map (λ x. lane (q x)) v) ≡ map (λ x. lane (p x || q x)) v
    each [] = refl
    each (x ∷ xs) = ap₂ (λ y ys. y ∷ ys) (lane-either (p x) (q x)) (each xs)

-- The mask of such lanes has a bit for each byte of which the comparisons hold.
pub lanes-masked : (p q : ℕ → Bool) (v z : List ℕ) → length v ≤ 64 → z ≡ map (λ x. lane (p x)) v → ((x : ℕ) → p x ≡ q x) →
    mask_l (map (top 7) z) % 2 ^ 64 ≡ mask_l (map q v)
lanes-masked p q v z short lanes same =
    ap (λ l. mask_l l % 2 ^ 64) (ap (map (top 7)) lanes ∙ each v) ∙ mask_l-mod (map q v) 64 (omega (arith, length-map v q))
  where
    each : (v : List ℕ) → map (top 7) (map (λ x. lane (p x)) v) ≡ map q v
    each [] = refl
    each (x ∷ xs) = ap₂ (λ y ys. y ∷ ys) (lane-top (p x) ∙ same x) (each xs)
