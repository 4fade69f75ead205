-- Lanes of 64 bytes: what a mask that is computed lane by lane says of each byte.
use Rattle.std.proofs.Common.{◌≡◌, ℕ, ◌%◌, ◌^◌, ◌<◌, Bool, false, T, List, [], ◌∷◌, map, length, get_or, replicate, refl, sym, ap, ap₂, ◌∙◌, arith, w8, Fits}
use Rattle.std.proofs.lemmas.Simd.{zip2_splat, map-map, Each1-get_or}
use Rattle.std.proofs.lemmas.List.{get_or-map, length-map}
use lib.Bits.{bit_and}
use lib.Lanes.{zip2, mask_l, top, Each1}
use Rattle.facet_format.proofs.Lanes.{equal as hit}
use Rattle.facet_json_parser.specs.Inner.Marks.{test}
use Rattle.facet_format.proofs.EachBelow.{upto, upto_sound, same, same_is}
use Rattle.facet_json_parser.proofs.Bits.Test.{test-mod, test-mask_l}

pub equal : (f : ℕ → ℕ) (y : ℕ) (v : List ℕ) {a : List ℕ} → length v ≡ 64 → a ≡ map f v → zip2 hit a (replicate 64 y) ≡ map (λ x. hit (f x) y) v
equal f y v long p = ap (λ a. zip2 hit a (replicate 64 y)) p ∙ zip2_splat hit (map f v) 64 y (length-map v f ∙ long) ∙ map-map (λ x. hit x y) f v

pub classified : (f : ℕ → ℕ) (p : ℕ → Bool) (v z : List ℕ) → (length v ≡ 64) × Each1 (Fits w8) v → z ≡ map f v → T (upto (λ x. same (top 7 (f x)) (p x)) 256)
    → (i : ℕ) → i < 64 → test (mask_l (map (top 7) z) % 2 ^ 64) i ≡ p (get_or v i 0)
classified f p v z fits e all i h =
    let within : i < length v = omega (arith, fits.0) in
    test-mod _ i h ∙ test-mask_l (map (top 7) z) i ∙ ap (λ l. get_or l i false) (ap (map (top 7)) e ∙ map-map (top 7) f v)
    ∙ get_or-map (λ x. top 7 (f x)) v i 0 false within ∙ same_is _ _ (upto_sound (λ x. same (top 7 (f x)) (p x)) 256 all (get_or v i 0) (Each1-get_or (Fits w8) v i 0 within fits.1).fits)

splat_left : (h : ℕ → ℕ → ℕ) (y : ℕ) (xs : List ℕ) → zip2 h (replicate (length xs) y) xs ≡ map (h y) xs
splat_left h y [] = refl
splat_left h y (x ∷ xs) = ap (λ r. h y x ∷ r) (splat_left h y xs)

pub ahead : (h : ℕ → ℕ → ℕ) (y n : ℕ) (v : List ℕ) → length v ≡ n → zip2 h (replicate n y) v ≡ map (h y) v
ahead h y n v long = ap (λ k. zip2 h (replicate k y) v) (sym long) ∙ splat_left h y v

zip2-map_and : (f g : ℕ → ℕ) (xs : List ℕ) → zip2 bit_and (map f xs) (map g xs) ≡ map (λ x. bit_and (f x) (g x)) xs
zip2-map_and f g [] = refl
zip2-map_and f g (x ∷ xs) = ap (λ r. bit_and (f x) (g x) ∷ r) (zip2-map_and f g xs)

pub together : (f g : ℕ → ℕ) (v : List ℕ) {a b : List ℕ} → a ≡ map f v → b ≡ map g v → zip2 bit_and a b ≡ map (λ x. bit_and (f x) (g x)) v
together f g v p q = ap₂ (zip2 bit_and) p q ∙ zip2-map_and f g v
