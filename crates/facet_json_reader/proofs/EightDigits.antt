-- Eight digits in a word are joined: each two neighbours, each two pairs, and the two fours.
use Rattle.std.proofs.Common.{◌≡◌, ℕ, ◌+◌, ◌*◌, ◌/◌, ◌<◌, ◌≤◌, ◌^◌, bit_and, lit<, ap, ◌∙◌, arith}
use Rattle.std.proofs.lemmas.Nat.{and_block, and_mask, mod_low, shr_high}

-- A word of eight digits, the first of them lowest, and what they spell.
pub record Eight (w value : ℕ) : Type 0 where
  pub a : ℕ
  pub b : ℕ
  pub c : ℕ
  pub d : ℕ
  pub e : ℕ
  pub f : ℕ
  pub g : ℕ
  pub h : ℕ
  pub is_a : a ≤ 9
  pub is_b : b ≤ 9
  pub is_c : c ≤ 9
  pub is_d : d ≤ 9
  pub is_e : e ≤ 9
  pub is_f : f ≤ 9
  pub is_g : g ≤ 9
  pub is_h : h ≤ 9
  pub is : w ≡ a + 256 * (b + 256 * (c + 256 * (d + 256 * (e + 256 * (f + 256 * (g + 256 * h))))))
  pub spells : value ≡ ((((((a * 10 + b) * 10 + c) * 10 + d) * 10 + e) * 10 + f) * 10 + g) * 10 + h

-- The code's steps: pairs, fours, and all of them.
abbrev pub paired : ℕ → ℕ
paired w = bit_and (w * 10 + w / 256) 71777214294589695

abbrev pub in_fours : ℕ → ℕ
in_fours w = bit_and (w * 100 + w / 65536) 281470681808895

abbrev pub joined : ℕ → ℕ
joined w = bit_and (w * 10000 + w / 4294967296) 4294967295

-- Of each two lanes the lower one is kept.
lane_8 : (lo mid hi m : ℕ) → lo < 256 → mid < 256 → bit_and (hi * 65536 + (mid * 256 + lo)) (m * 65536 + 255) ≡ bit_and hi m * 65536 + lo
lane_8 lo mid hi m low middle =
    and_block 16 hi m (mid * 256 + lo) 255 (omega (arith, low, middle)) (lit< tt)
    ∙ ap (λ r. bit_and hi m * 65536 + r) (and_mask (mid * 256 + lo) 8 ∙ mod_low mid 8 lo low)

lane_16 : (lo mid hi m : ℕ) → lo < 65536 → mid < 65536 → bit_and (hi * 4294967296 + (mid * 65536 + lo)) (m * 4294967296 + 65535) ≡ bit_and hi m * 4294967296 + lo
lane_16 lo mid hi m low middle =
    and_block 32 hi m (mid * 65536 + lo) 65535 (omega (arith, low, middle)) (lit< tt)
    ∙ ap (λ r. bit_and hi m * 4294967296 + r) (and_mask (mid * 65536 + lo) 16 ∙ mod_low mid 16 lo low)

module _ {w value : ℕ} (s : Eight w value) where
  shifted : w / 256 ≡ s.b + 256 * (s.c + 256 * (s.d + 256 * (s.e + 256 * (s.f + 256 * (s.g + 256 * s.h)))))
  shifted =
      let rest = s.b + 256 * (s.c + 256 * (s.d + 256 * (s.e + 256 * (s.f + 256 * (s.g + 256 * s.h))))) in
      let whole : w ≡ rest * 256 + s.a = omega (arith, s.is) in
      ap (λ n. n / 256) whole ∙ shr_high rest 8 s.a (omega (arith, s.is_a))

  pub pairs-are : paired w ≡ ((((s.g * 10 + s.h) * 65536 + (s.e * 10 + s.f)) * 65536) + (s.c * 10 + s.d)) * 65536 + (s.a * 10 + s.b)
  pairs-are =
      let p0 = s.a * 10 + s.b in
      let p1 = s.c * 10 + s.d in
      let p2 = s.e * 10 + s.f in
      let p3 = s.g * 10 + s.h in
      let q0 = s.b * 10 + s.c in
      let q1 = s.d * 10 + s.e in
      let q2 = s.f * 10 + s.g in
      let q3 = s.h * 10 in
      let h3 = q3 * 256 + p3 in
      let h2 = h3 * 65536 + (q2 * 256 + p2) in
      let h1 = h2 * 65536 + (q1 * 256 + p1) in
      let whole : w * 10 + w / 256 ≡ h1 * 65536 + (q0 * 256 + p0) = omega (arith, s.is, shifted) in
      ap (λ n. bit_and n 71777214294589695) whole
      ∙ lane_8 p0 q0 h1 1095233372415 (omega (arith, s.is_a, s.is_b)) (omega (arith, s.is_b, s.is_c))
      ∙ ap (λ n. n * 65536 + p0) (lane_8 p1 q1 h2 16711935 (omega (arith, s.is_c, s.is_d)) (omega (arith, s.is_d, s.is_e))
      ∙ ap (λ n. n * 65536 + p1) (lane_8 p2 q2 h3 255 (omega (arith, s.is_e, s.is_f)) (omega (arith, s.is_f, s.is_g))
      ∙ ap (λ n. n * 65536 + p2) (and_mask h3 8 ∙ mod_low q3 8 p3 (omega (arith, s.is_g, s.is_h)))))

  pub fours-are : in_fours (paired w) ≡ (((s.e * 10 + s.f) * 10 + s.g) * 10 + s.h) * 4294967296 + (((s.a * 10 + s.b) * 10 + s.c) * 10 + s.d)
  fours-are =
      let p0 = s.a * 10 + s.b in
      let p1 = s.c * 10 + s.d in
      let p2 = s.e * 10 + s.f in
      let p3 = s.g * 10 + s.h in
      let f0 = ((s.a * 10 + s.b) * 10 + s.c) * 10 + s.d in
      let f1 = ((s.e * 10 + s.f) * 10 + s.g) * 10 + s.h in
      let g0 = p1 * 100 + p2 in
      let g1 = p3 * 100 in
      let high = (p3 * 65536 + p2) * 65536 + p1 in
      let moved : paired w / 65536 ≡ high = ap (λ n. n / 65536) pairs-are ∙ shr_high high 16 p0 (omega (arith, s.is_a, s.is_b)) in
      let whole : paired w * 100 + paired w / 65536 ≡ (g1 * 65536 + f1) * 4294967296 + (g0 * 65536 + f0) = omega (arith, pairs-are, moved) in
      ap (λ n. bit_and n 281470681808895) whole
      ∙ lane_16 f0 g0 (g1 * 65536 + f1) 65535 (omega (arith, s.is_a, s.is_b, s.is_c, s.is_d)) (omega (arith, s.is_c, s.is_d, s.is_e, s.is_f))
      ∙ ap (λ n. n * 4294967296 + f0) (and_mask (g1 * 65536 + f1) 16 ∙ mod_low g1 16 f1 (omega (arith, s.is_e, s.is_f, s.is_g, s.is_h)))

  pub joined-is : joined (in_fours (paired w)) ≡ value
  joined-is =
      let f0 = ((s.a * 10 + s.b) * 10 + s.c) * 10 + s.d in
      let f1 = ((s.e * 10 + s.f) * 10 + s.g) * 10 + s.h in
      let fours = in_fours (paired w) in
      let moved : fours / 4294967296 ≡ f1 = ap (λ n. n / 4294967296) fours-are ∙ shr_high f1 32 f0 (omega (arith, s.is_a, s.is_b, s.is_c, s.is_d)) in
      let whole : fours * 10000 + fours / 4294967296 ≡ f1 * 10000 * 4294967296 + value = omega (arith, fours-are, moved, s.spells) in
      ap (λ n. bit_and n 4294967295) whole
      ∙ and_mask (f1 * 10000 * 4294967296 + value) 32
      ∙ mod_low (f1 * 10000) 32 value (omega (arith, s.spells, s.is_a, s.is_b, s.is_c, s.is_d, s.is_e, s.is_f, s.is_g, s.is_h))

  -- No digit leaves its byte.
  pub word-small : w ≤ 651061555542690057
  word-small = omega (arith, s.is, s.is_a, s.is_b, s.is_c, s.is_d, s.is_e, s.is_f, s.is_g, s.is_h)

  value-small : value < 10 ^ 8
  value-small = omega (arith, s.spells, s.is_a, s.is_b, s.is_c, s.is_d, s.is_e, s.is_f, s.is_g, s.is_h)

  pub joined-small : joined (in_fours (paired w)) < 10 ^ 8
  joined-small = omega (arith, joined-is, value-small)
