-- One bit of a word as a Bool, through each operation.
use Rattle.std.proofs.Common.{◌≡◌, ℕ, zero, suc, ◌+◌, ◌-◌, ◌*◌, ◌/◌, ◌%◌, ◌^◌, ◌<◌, min, max, Bool, true, false, not, ◌&&◌, ◌||◌, ◌==◌, List, get_or, cond, refl, sym, ap, ◌∙◌, subst, arith, w64, mod-lt, zero-lt-suc, le_of_suc-le-suc, not-suc-le-zero, mul_assoc}
use Rattle.std.specs.Int.{bit_at}
use Rattle.std.proofs.lemmas.Nat.Bits.{bit_at_and, bit_at_or, bit_at_xor, bit_at_not}
use Rattle.std.proofs.lemmas.Simd.{bit_mask_l}
use lib.Bits.{bit_and, bit_or, bit_xor, shifted_even}
use lib.Pow.{field, mod-mod-pow, shr-shr, shl-shr, pow-add}
use lib.Lanes.{mask_l}
use mir.Val.{bool_byte}
use Rattle.facet_format.proofs.EachBelow.{upto_sound, same, same_is}
use Rattle.facet_json_parser.specs.Inner.Marks.{test, xor}

pub bit_cases : (P : ℕ → Type 0) → P 0 → P 1 → (x : ℕ) → x < 2 → P x
bit_cases P p q zero h = p
bit_cases P p q (suc zero) h = q
bit_cases P p q (suc (suc r)) h = absurd (not-suc-le-zero (le_of_suc-le-suc (le_of_suc-le-suc h)))

pub bit_lt : (n i : ℕ) → bit_at n i < 2
bit_lt n i = mod-lt (n / 2 ^ i) (zero-lt-suc 1)

pub two_bits : (P : ℕ → ℕ → Type 0) → P 0 0 → P 0 1 → P 1 0 → P 1 1 → (a b i : ℕ) → P (bit_at a i) (bit_at b i)
two_bits P p q r s a b i =
    bit_cases (λ x. P x (bit_at b i)) (bit_cases (P 0) p q (bit_at b i) (bit_lt b i)) (bit_cases (P 1) r s (bit_at b i) (bit_lt b i)) (bit_at a i) (bit_lt a i)

pub test-and : (a b i : ℕ) → test (bit_and a b) i ≡ (test a i && test b i)
unfolding test
test-and a b i = ap (λ n. n == 1) (bit_at_and a b i) ∙ two_bits (λ x y. (min x y == 1) ≡ ((x == 1) && (y == 1))) refl refl refl refl a b i

pub test-or : (a b i : ℕ) → test (bit_or a b) i ≡ (test a i || test b i)
unfolding test
test-or a b i = ap (λ n. n == 1) (bit_at_or a b i) ∙ two_bits (λ x y. (max x y == 1) ≡ ((x == 1) || (y == 1))) refl refl refl refl a b i

pub test-xor : (a b i : ℕ) → test (bit_xor a b) i ≡ xor (test a i) (test b i)
unfolding test
test-xor a b i = ap (λ n. n == 1) (bit_at_xor a b i) ∙ two_bits (λ x y. ((x + y) % 2 == 1) ≡ xor (x == 1) (y == 1)) refl refl refl refl a b i

abbrev pub flip : ℕ → ℕ
flip a = 2 ^ 64 - 1 - a

pub test-flip : (a i : ℕ) → a < 2 ^ 64 → i < 64 → test (flip a) i ≡ not (test a i)
unfolding test
test-flip a i ha hi = ap (λ n. n == 1) (bit_at_not w64 a i ha hi) ∙ bit_cases (λ x. ((1 - x) == 1) ≡ not (x == 1)) refl refl (bit_at a i) (bit_lt a i)

pub test-mod : (n i : ℕ) → i < 64 → test (n % 2 ^ 64) i ≡ test n i
unfolding test
test-mod n i h =
    let m = 63 - i in
    let e : m + 1 + i ≡ 64 = omega arith in
    ap (λ x. x == 1) (subst (λ w. bit_at (n % 2 ^ w) i ≡ bit_at n i) e (ap (λ x. x % 2) (field n (m + 1) i) ∙ mod-mod-pow (n / 2 ^ i) m 1))

abbrev pub shl : ℕ → ℕ → ℕ
shl k y = y * 2 ^ k % 2 ^ 64

pub test-shl_high : (k j y : ℕ) → k + j < 64 → test (shl k y) (k + j) ≡ test y j
unfolding test
test-shl_high k j y h = test-mod (y * 2 ^ k) (k + j) h ∙ ap (λ x. x % 2 == 1) (sym (shr-shr (y * 2 ^ k) k j) ∙ ap (λ x. x / 2 ^ j) (shl-shr y k))

pub test-shl_low : (k i y : ℕ) → i < k → i < 64 → test (shl k y) i ≡ false
unfolding test
test-shl_low k i y lt h =
    let m = k - i - 1 in
    let e : suc m + i ≡ k = omega arith in
    let moved : y * 2 ^ (suc m + i) / 2 ^ i ≡ y * 2 ^ suc m = ap (λ x. x / 2 ^ i) (ap (λ x. y * x) (pow-add 2 (suc m) i) ∙ sym (mul_assoc y (2 ^ suc m) (2 ^ i))) ∙ shl-shr (y * 2 ^ suc m) i in
    test-mod (y * 2 ^ k) i h ∙ ap (λ x. x == 1) (subst (λ w. bit_at (y * 2 ^ w) i ≡ 0) e (ap (λ x. x % 2) moved ∙ shifted_even y m))

pub test-mask_l : (ms : List Bool) (i : ℕ) → test (mask_l ms) i ≡ get_or ms i false
unfolding test
test-mask_l ms i = ap (λ x. x == 1) (bit_mask_l ms i) ∙ back (get_or ms i false)
  where
    back : (b : Bool) → (cond b 1 0 == 1) ≡ b
    back true = refl
    back false = refl

abbrev pub spread : Bool → ℕ
spread c = (0 + (2 ^ 64 - bool_byte c)) % 2 ^ 64

pub test-spread : (c : Bool) (i : ℕ) → i < 64 → test (spread c) i ≡ c
unfolding test
test-spread true i h = same_is _ _ (upto_sound (λ j. same (test (spread true) j) true) 64 tt i h)
test-spread false i h = same_is _ _ (upto_sound (λ j. same (test (spread false) j) false) 64 tt i h)

pub top_bit : (x : ℕ) → x < 2 ^ 64 → (x / 2 ^ 63 == 1) ≡ test x 63
unfolding test
top_bit x h =
    let e : x / 2 ^ 63 ≡ x / 2 ^ 63 % 2 = omega arith in
    ap (λ n. n == 1) e
