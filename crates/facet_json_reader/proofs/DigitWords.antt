-- A word of digits that are moved to its end, after zeros.
use Rattle.std.proofs.Common.{◌≡◌, ℕ, zero, suc, ◌+◌, ◌-◌, ◌*◌, ◌%◌, ◌<◌, ◌≤◌, ◌^◌, true, List, [], ◌∷◌, ◌++◌, length, map, take, drop, replicate, refl, sym, ap, subst, ◌∙◌, arith}
use Rattle.std.specs.Prelude.{nat_le, slice_range}
use Rattle.std.proofs.lemmas.Bool.{and_parts, leb-true}
use Rattle.std.proofs.lemmas.List.{take-replicate, take-take, length-replicate, length-append, length-take-le, length-drop}
use Rattle.std.proofs.lemmas.Nat.{pow-add, pow_pos, mod_low}
use Rattle.facet_format.specs.Bytes.{is_digit}
use Rattle.facet_format.specs.Number.{AreDigits, none, digit}
use Rattle.facet_format.specs.NumberValue.{digits_value}
use Rattle.facet_json_reader.specs.Inner.Digits.{word}
use Rattle.facet_json_reader.proofs.EightDigits.{Eight}

-- what a digit stands for
abbrev pub worth : ℕ → ℕ
worth b = b - 0x30

nine_at_most : (b : ℕ) → is_digit b ≡ true → b ≤ 0x39
nine_at_most b is = leb-true b 0x39 (and_parts (nat_le 0x30 b) (nat_le b 0x39) is).1

zero_at_least : (b : ℕ) → is_digit b ≡ true → 0x30 ≤ b
zero_at_least b is = leb-true 0x30 b (and_parts (nat_le 0x30 b) (nat_le b 0x39) is).0

-- One byte more is 256 times as much.
byte-more : (n : ℕ) → 2 ^ (8 * suc n) ≡ 256 * 2 ^ (8 * n)
byte-more n = let e : 8 * suc n ≡ 8 + 8 * n = omega arith in ap (λ k. 2 ^ k) e ∙ pow-add 2 8 (8 * n)

-- The first bytes of a word are its lowest.
word-split : (bytes : List ℕ) (n : ℕ) → word bytes ≡ word (take n bytes) + 2 ^ (8 * n) * word (drop n bytes)
word-split bytes zero = omega arith
word-split [] (suc n) = omega arith
word-split (b ∷ bytes) (suc n) =
    let p = 2 ^ (8 * n) in
    let r = word (drop n bytes) in
    let more : 2 ^ (8 * suc n) * r ≡ 256 * p * r = ap (λ q. q * r) (byte-more n) in
    let turned : 256 * p * r ≡ 256 * (p * r) = grind arith in
    omega (arith, word-split bytes n, more, turned)

word-below : (bytes : List ℕ) → AreDigits bytes → word bytes < 2 ^ (8 * length bytes)
word-below _ none = omega arith
word-below _ (digit b bytes is others) = omega (arith, word-below bytes others, byte-more (length bytes), nine_at_most b is)

-- Digits are zeros and what they stand for.
word-parts : (bytes : List ℕ) → AreDigits bytes → word bytes ≡ word (map worth bytes) + word (replicate (length bytes) 0x30)
word-parts _ none = refl
word-parts _ (digit b bytes is others) = omega (arith, word-parts bytes others, zero_at_least b is)

-- ---- moved to the end

product : (lo hi p q : ℕ) → (lo + q * hi) * p ≡ hi * (q * p) + lo * p
product lo hi p q = grind arith

below-product : (lo p q : ℕ) → lo < q → 0 < p → lo * p < q * p
below-product lo p q h some = grind arith

-- What is moved out of the word is gone.
moved : (bytes : List ℕ) (n : ℕ) → n ≤ 8 → AreDigits (take n bytes) → length (take n bytes) ≡ n →
    word bytes * 2 ^ (64 - 8 * n) % 2 ^ 64 ≡ word (take n bytes) * 2 ^ (64 - 8 * n)
moved bytes n few are long =
    let p = 2 ^ (64 - 8 * n) in
    let q = 2 ^ (8 * n) in
    let lo = word (take n bytes) in
    let hi = word (drop n bytes) in
    let sum : 8 * n + (64 - 8 * n) ≡ 64 = omega arith in
    let whole : q * p ≡ 2 ^ 64 = sym (pow-add 2 (8 * n) (64 - 8 * n)) ∙ ap (λ k. 2 ^ k) sum in
    let low : lo < q = subst (λ k. lo < 2 ^ (8 * k)) long (word-below (take n bytes) are) in
    let fits : lo * p < 2 ^ 64 = omega (arith, below-product lo p q low (pow_pos (64 - 8 * n)), whole) in
    ap (λ w. w * p % 2 ^ 64) (word-split bytes n)
    ∙ ap (λ w. w % 2 ^ 64) (product lo hi p q ∙ ap (λ r. hi * r + lo * p) whole)
    ∙ mod_low hi 64 (lo * p) fits

zeros-are : (n : ℕ) → AreDigits (replicate n 0x30)
zeros-are zero = none
zeros-are (suc n) = digit 0x30 (replicate n 0x30) refl (zeros-are n)

zeros-moved : (n : ℕ) → n ≤ 8 → 3472328296227680304 * 2 ^ (64 - 8 * n) % 2 ^ 64 ≡ word (replicate n 0x30) * 2 ^ (64 - 8 * n)
zeros-moved n few =
    let front = take-replicate n 8 0x30 few in
    moved (replicate 8 0x30) n few (subst AreDigits (sym front) (zeros-are n)) (ap length front ∙ length-replicate n 0x30)
    ∙ ap (λ bytes. word bytes * 2 ^ (64 - 8 * n)) front

-- ---- padded with zeros

-- digits after zeros
abbrev padded : ℕ → List ℕ → List ℕ
padded k bytes = replicate k 0x30 ++ bytes

padded-are : (k : ℕ) (bytes : List ℕ) → AreDigits bytes → AreDigits (padded k bytes)
padded-are zero bytes are = are
padded-are (suc k) bytes are = digit 0x30 (padded k bytes) refl (padded-are k bytes are)

padded-value : (k : ℕ) (bytes : List ℕ) → digits_value 0 (padded k bytes) ≡ digits_value 0 bytes
padded-value zero bytes = refl
padded-value (suc k) bytes = padded-value k bytes

padded-word : (k : ℕ) (bytes : List ℕ) → word (map worth (padded k bytes)) ≡ word (map worth bytes) * 2 ^ (8 * k)
padded-word zero bytes = omega arith
padded-word (suc k) bytes =
    let v = word (map worth bytes) in
    let more : v * 2 ^ (8 * suc k) ≡ v * (256 * 2 ^ (8 * k)) = ap (λ q. v * q) (byte-more k) in
    let turned : v * (256 * 2 ^ (8 * k)) ≡ 256 * (v * 2 ^ (8 * k)) = grind arith in
    omega (arith, padded-word k bytes, more, turned)

-- Eight digits are eight.
eight-of : (bytes : List ℕ) → AreDigits bytes → length bytes ≡ 8 → Eight (word (map worth bytes)) (digits_value 0 bytes)
eight-of _ (digit a _ ia (digit b _ ib (digit c _ ic (digit d _ id (digit e _ ie (digit f _ it (digit g _ ig (digit h _ ih none)))))))) long = record {
  a = worth a;
  b = worth b;
  c = worth c;
  d = worth d;
  e = worth e;
  f = worth f;
  g = worth g;
  h = worth h;
  is_a = omega (arith, nine_at_most a ia);
  is_b = omega (arith, nine_at_most b ib);
  is_c = omega (arith, nine_at_most c ic);
  is_d = omega (arith, nine_at_most d id);
  is_e = omega (arith, nine_at_most e ie);
  is_f = omega (arith, nine_at_most f it);
  is_g = omega (arith, nine_at_most g ig);
  is_h = omega (arith, nine_at_most h ih);
  is = omega arith;
  spells = omega arith;
}
eight-of bytes are long = absurd (omega (arith, long))

module _ (bytes : List ℕ) (n : ℕ) (few : n ≤ 8) (are : AreDigits (take n bytes)) (long : length (take n bytes) ≡ n) where
  parts : word bytes * 2 ^ (64 - 8 * n) % 2 ^ 64 ≡ word (map worth (take n bytes)) * 2 ^ (64 - 8 * n) + 3472328296227680304 * 2 ^ (64 - 8 * n) % 2 ^ 64
  parts =
      let p = 2 ^ (64 - 8 * n) in
      let v = word (map worth (take n bytes)) in
      let z = word (replicate n 0x30) in
      let split : word (take n bytes) ≡ v + z = word-parts (take n bytes) are ∙ ap (λ k. v + word (replicate k 0x30)) long in
      let spread : (v + z) * p ≡ v * p + z * p = grind arith in
      moved bytes n few are long ∙ ap (λ w. w * p) split ∙ spread ∙ ap (λ r. v * p + r) (sym (zeros-moved n few))

  eight-padded : Eight (word bytes * 2 ^ (64 - 8 * n) % 2 ^ 64 - 3472328296227680304 * 2 ^ (64 - 8 * n) % 2 ^ 64) (digits_value 0 (take n bytes))
  eight-padded =
      let xs = take n bytes in
      let k = 8 - n in
      let bits : 8 * k ≡ 64 - 8 * n = omega arith in
      let word-is : word (map worth (padded k xs)) ≡ word bytes * 2 ^ (64 - 8 * n) % 2 ^ 64 - 3472328296227680304 * 2 ^ (64 - 8 * n) % 2 ^ 64 =
      omega (arith, padded-word k xs, ap (λ m. word (map worth xs) * 2 ^ m) bits, parts) in
      let all : length (padded k xs) ≡ 8 = length-append (replicate k 0x30) xs ∙ omega (arith, length-replicate {A = ℕ} k 0x30, long) in
      subst (λ w. Eight w (digits_value 0 xs)) word-is (subst (Eight (word (map worth (padded k xs)))) (padded-value k xs) (eight-of (padded k xs) (padded-are k xs are) all))

-- The digits of a word, moved to its end and without their zeros, are eight, which spell what they spelled.
pub record MovedDigits (w n value : ℕ) : Type 0 where
  pub below : 3472328296227680304 * 2 ^ (64 - 8 * n) % 2 ^ 64 ≤ w * 2 ^ (64 - 8 * n) % 2 ^ 64
  pub eight : Eight (w * 2 ^ (64 - 8 * n) % 2 ^ 64 - 3472328296227680304 * 2 ^ (64 - 8 * n) % 2 ^ 64) value

pub moved-digits : (buffer : List ℕ) (at n w : ℕ) → n ≤ 8 → at + 8 ≤ length buffer → AreDigits (slice_range buffer at (at + n)) →
    w ≡ word (take 8 (drop at buffer)) → MovedDigits w n (digits_value 0 (slice_range buffer at (at + n)))
moved-digits buffer at n w few room are is =
    let rest = drop at buffer in
    let bytes = take 8 rest in
    let own : (at + n) - at ≡ n = omega arith in
    let same : slice_range buffer at (at + n) ≡ take n bytes = ap (λ k. take k rest) own ∙ sym (take-take n 8 rest few) in
    let digits = subst AreDigits same are in
    let long : length (take n bytes) ≡ n =
    ap length (take-take n 8 rest few) ∙ length-take-le n rest (omega (arith, length-drop at buffer)) in
    let sum = parts bytes n few digits long in
    let eight = eight-padded bytes n few digits long in
    subst (λ v. MovedDigits v n (digits_value 0 (slice_range buffer at (at + n)))) (sym is)
    (subst (λ xs. MovedDigits (word bytes) n (digits_value 0 xs)) (sym same) (record {
      below = omega (arith, sum);
      eight = eight;
    }))
