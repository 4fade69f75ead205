-- Digits in two slices, one after the other.
use Rattle.std.proofs.Common.{◌≡◌, ℕ, zero, suc, ◌+◌, ◌-◌, ◌*◌, ◌≤◌, ◌^◌, List, [], ◌∷◌, length, take, drop, sym, ap, subst, refl, ◌∙◌, arith, length-drop}
use Rattle.std.specs.Prelude.{slice_range}
use Rattle.std.proofs.Math.Nat.{pow-suc}
use Rattle.std.proofs.lemmas.List.{take-take, length-take-le, drop-drop, drop-take}
use Rattle.facet_format.specs.Number.{AreDigits, none, digit}
use Rattle.facet_format.specs.NumberValue.{digits_value}

digits-take : (n : ℕ) (bytes : List ℕ) → AreDigits bytes → AreDigits (take n bytes)
digits-take zero bytes are = none
digits-take (suc n) _ none = none
digits-take (suc n) _ (digit b bytes is others) = digit b (take n bytes) is (digits-take n bytes others)

digits-drop : (n : ℕ) (bytes : List ℕ) → AreDigits bytes → AreDigits (drop n bytes)
digits-drop zero bytes are = are
digits-drop (suc n) _ none = none
digits-drop (suc n) _ (digit b bytes is others) = digits-drop n bytes others

-- What stands before digits counts as often as they have values.
value-after : (n : ℕ) (bytes : List ℕ) → digits_value n bytes ≡ n * 10 ^ length bytes + digits_value 0 bytes
value-after n [] = omega arith
value-after n (b ∷ bytes) =
    let p = 10 ^ length bytes in
    let v = b - 0x30 in
    let spread : (n * 10 + v) * p ≡ n * (10 * p) + v * p = grind arith in
    let power : n * 10 ^ suc (length bytes) ≡ n * (10 * p) = grind (arith, pow-suc) in
    omega (arith, value-after (n * 10 + v) bytes, value-after (0 * 10 + v) bytes, spread, power)

value-split : (m n : ℕ) (bytes : List ℕ) → digits_value m bytes ≡ digits_value (digits_value m (take n bytes)) (drop n bytes)
value-split m zero bytes = refl
value-split m (suc n) [] = refl
value-split m (suc n) (b ∷ bytes) = value-split (m * 10 + (b - 0x30)) n bytes

-- A slice within another one.
pub front-slice : (buffer : List ℕ) (at m len : ℕ) → m ≤ len → slice_range buffer at (at + m) ≡ take m (slice_range buffer at (at + len))
front-slice buffer at m len le =
    let rest = drop at buffer in
    let short : (at + m) - at ≡ m = omega arith in
    let long : (at + len) - at ≡ len = omega arith in
    ap (λ k. take k rest) short ∙ sym (take-take m len rest le) ∙ ap (λ k. take m (take k rest)) (sym long)

pub back-slice : (buffer : List ℕ) (at m k len : ℕ) → m + k ≡ len → slice_range buffer (at + m) (at + m + k) ≡ drop m (slice_range buffer at (at + len))
back-slice buffer at m k len whole =
    let rest = drop at buffer in
    let short : (at + m + k) - (at + m) ≡ k = omega arith in
    let long : m + k ≡ (at + len) - at = omega (arith, whole) in
    ap (λ n. take n (drop (at + m) buffer)) short
    ∙ ap (take k) (sym (drop-drop m at buffer))
    ∙ sym (drop-take m k rest)
    ∙ ap (λ n. drop m (take n rest)) long

-- Digits with eight at their end.
module _ (buffer : List ℕ) (at len : ℕ) (more : 8 ≤ len) (are : AreDigits (slice_range buffer at (at + len))) where
  whole : (len - 8) + 8 ≡ len
  whole = omega (arith, more)

  pub front-digits : AreDigits (slice_range buffer at (at + (len - 8)))
  front-digits =
      subst AreDigits (sym (front-slice buffer at (len - 8) len (omega arith))) (digits-take (len - 8) (slice_range buffer at (at + len)) are)

  pub back-digits : AreDigits (slice_range buffer (at + (len - 8)) (at + (len - 8) + 8))
  back-digits =
      subst AreDigits (sym (back-slice buffer at (len - 8) 8 len whole)) (digits-drop (len - 8) (slice_range buffer at (at + len)) are)

  pub front-back-value : at + len ≤ length buffer →
      digits_value 0 (slice_range buffer at (at + (len - 8))) * 100000000 + digits_value 0 (slice_range buffer (at + (len - 8)) (at + (len - 8) + 8))
      ≡ digits_value 0 (slice_range buffer at (at + len))
  front-back-value within =
      let m = len - 8 in
      let text = slice_range buffer at (at + len) in
      let front = front-slice buffer at m len (omega arith) in
      let back = back-slice buffer at m 8 len whole in
      let long : (at + len) - at ≡ len = omega arith in
      let size : length text ≡ len = ap (λ k. length (take k (drop at buffer))) long ∙ length-take-le len (drop at buffer) (omega (arith, length-drop at buffer, within)) in
      let eight : length (drop m text) ≡ 8 = omega (arith, length-drop m text, size, whole) in
      let after = value-after (digits_value 0 (take m text)) (drop m text) in
      let power : digits_value 0 (take m text) * 10 ^ length (drop m text) ≡ digits_value 0 (take m text) * 100000000 = ap (λ k. digits_value 0 (take m text) * 10 ^ k) eight in
      omega (arith, ap (digits_value 0) front, ap (digits_value 0) back, value-split 0 m text, after, power)
