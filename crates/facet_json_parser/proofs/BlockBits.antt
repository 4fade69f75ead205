-- The words of a block say of its bytes what they should.
use Rattle.std.proofs.Common.{◌≡◌, ℕ, zero, suc, ◌+◌, ◌/◌, ◌%◌, ◌^◌, ◌<◌, ◌≤◌, ◌⊎◌, inl, inr, Bool, true, false, not, ◌&&◌, ◌||◌, ◌==◌, List, get_or, refl, sym, ap, ap₂, ◌∙◌, arith, add-one}
use Rattle.std.proofs.lemmas.Bool.{cases_lt}
use lib.Bits.{bit_and, bit_or, bit_xor, or_lt}
use lib.Pow.{shr-shr}
use Rattle.facet_json_parser.specs.Inner.Marks.{test, xor, parity, inside, is_quote, is_backslash, is_calm, is_hard, is_marked}
use Rattle.facet_json_parser.proofs.Bits.Test.{test-and, test-or, test-xor, flip, test-flip, test-spread, spread}
use Rattle.facet_format.proofs.EachBelow.{upto_sound, same, same_is}

abbrev pub Bits : ℕ → (ℕ → Bool) → Type 0
Bits x p = (i : ℕ) → i < 64 → test x i ≡ p i

swap : (p q c : Bool) → xor (xor p q) c ≡ xor (xor p c) q
swap true true true = refl
swap true true false = refl
swap true false true = refl
swap true false false = refl
swap false true true = refl
swap false true false = refl
swap false false true = refl
swap false false false = refl

test-half : (x i : ℕ) → test (x / 2) i ≡ test x (suc i)
unfolding test
test-half x i =
    let e : 1 + i ≡ suc i = omega arith in
    ap (λ n. n % 2 == 1) (shr-shr x 1 i) ∙ ap (test x) e

test-top : Bits (2 ^ 63) (λ i. i == 63)
unfolding test
test-top i h = same_is _ _ (upto_sound (λ j. same (test (2 ^ 63) j) (j == 63)) 64 tt i h)

pub test-none : Bits 0 (λ i. false)
unfolding test
test-none i h = same_is _ _ (upto_sound (λ j. same (test 0 j) false) 64 tt i h)

pub test-all : Bits 18446744073709551615 (λ i. true)
unfolding test
test-all i h = same_is _ _ (upto_sound (λ j. same (test 18446744073709551615 j) true) 64 tt i h)

or-true : (a : Bool) → (a || true) ≡ true
or-true true = refl
or-true false = refl

neither : (a b : Bool) → (a || b) ≡ false → (a ≡ false) × (b ≡ false)
neither false false e = (refl, refl)
neither true b e = cc
neither false true e = cc

at_last : (a b : Bool) (i : ℕ) → i < 64 → (i < 63 → a ≡ b) → (a || (i == 63)) ≡ (b || (i == 63))
at_last a b i h same = go (cases_lt i 63)
  where
    go : (i < 63) ⊎ (63 ≤ i) → (a || (i == 63)) ≡ (b || (i == 63))
    go (inl l) = ap (λ x. x || (i == 63)) (same l)
    go (inr g) =
        let e : i ≡ 63 = omega arith in
        rw e (or-true a ∙ sym (or-true b))

module _ (within : Bool) (v : List ℕ) where
  abbrev byte : ℕ → ℕ
  byte i = get_or v i 0

  pub inside-along : (q : ℕ) → Bits q (λ i. is_quote (byte i)) → (i : ℕ) → i ≤ 64 → xor (parity q i) within ≡ inside within v i
  unfolding parity inside
  inside-along q hq zero h = refl
  inside-along q hq (suc i) h = swap (parity q i) (test q i) within ∙ ap₂ xor (inside-along q hq i (omega arith)) (hq i h)

  inside-still : ((i : ℕ) → i < 64 → is_quote (byte i) ≡ false) → (i : ℕ) → i ≤ 64 → inside within v i ≡ within
  unfolding inside
  inside-still none zero h = refl
  inside-still none (suc i) h = ap₂ xor (inside-still none i (omega arith)) (none i h) ∙ xor-none within
    where
      xor-none : (a : Bool) → xor a false ≡ a
      xor-none true = refl
      xor-none false = refl

  module _ (quotes slashes : ℕ) (hq : Bits quotes (λ i. is_quote (byte i))) (hs : Bits slashes (λ i. is_backslash (byte i))) where
    abbrev hard : ℕ
    hard = bit_and slashes (bit_or (bit_or quotes slashes / 2) (2 ^ 63))

    hard_is : Bits hard (is_hard v)
    hard_is i h =
        test-and slashes (bit_or (bit_or quotes slashes / 2) (2 ^ 63)) i
        ∙ ap₂ (λ a b. a && b) (hs i h) (test-or (bit_or quotes slashes / 2) (2 ^ 63) i ∙ ap (λ b. test (bit_or quotes slashes / 2) i || b) (test-top i h)
        ∙ at_last _ _ i h (λ l. test-half (bit_or quotes slashes) i ∙ test-or quotes slashes (suc i) ∙ ap₂ (λ a b. a || b) (hq (suc i) (omega arith)) (hs (suc i) (omega arith))))

    pub texts_are : (px : ℕ) → Bits px (λ i. parity quotes (i + 1)) → Bits (bit_xor px (spread within)) (λ i. inside within v (suc i))
    texts_are px hpx i h =
        test-xor px (spread within) i ∙ ap₂ xor (hpx i h ∙ ap (parity quotes) (add-one i)) (test-spread within i h) ∙ inside-along quotes hq (suc i) (omega arith)

    pub marks_are : (calm texts : ℕ) → calm < 2 ^ 64 → texts < 2 ^ 64 → Bits calm (λ i. is_calm (byte i)) → Bits texts (λ i. inside within v (suc i)) →
        Bits (bit_or (flip (bit_or calm texts)) hard) (is_marked within v)
    marks_are calm texts hc ht hcalm htexts i h =
        test-or (flip (bit_or calm texts)) hard i
        ∙ ap₂ (λ a b. a || b) (test-flip (bit_or calm texts) i (or_lt 64 calm texts hc ht) h ∙ ap not (test-or calm texts i ∙ ap₂ (λ a b. a || b) (hcalm i h) (htexts i h))) (hard_is i h)

    none_set : bit_or quotes slashes ≡ 0 → (i : ℕ) → i < 64 → (is_quote (byte i) ≡ false) × (is_backslash (byte i) ≡ false)
    none_set e i h =
        let clear = neither (test quotes i) (test slashes i) (sym (test-or quotes slashes i) ∙ ap (λ n. test n i) e ∙ test-none i h) in
        (sym (hq i h) ∙ clear.0, sym (hs i h) ∙ clear.1)

    pub still_texts : within ≡ true → bit_or quotes slashes ≡ 0 → Bits 18446744073709551615 (λ i. inside within v (suc i))
    still_texts w e i h = test-all i h ∙ sym (inside-still (λ j hj. (none_set e j hj).0) (suc i) (omega arith) ∙ w)

    pub still_unmarked : within ≡ true → bit_or quotes slashes ≡ 0 → Bits 0 (is_marked within v)
    still_unmarked w e i h =
        let here = inside-still (λ j hj. (none_set e j hj).0) (suc i) (omega arith) ∙ w in
        test-none i h ∙ sym (ap₂ (λ a b. not (is_calm (byte i) || a) || (b && ((is_quote (get_or v (suc i) 0) || is_backslash (get_or v (suc i) 0)) || (i == 63)))) here (none_set e i h).1
        ∙ ap (λ a. not a || false) (or-true (is_calm (byte i))))
