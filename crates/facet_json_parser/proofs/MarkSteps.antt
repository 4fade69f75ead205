-- What a mark is, and what is left of the marks behind a token.
use Rattle.std.proofs.Common.{◌≡◌, ℕ, suc, ◌+◌, ◌-◌, ◌/◌, ◌%◌, ◌^◌, ◌<◌, ◌≤◌, ◌⊎◌, inl, inr, Bool, true, false, not, ◌&&◌, ◌||◌, ◌==◌, List, length, slice_get, get_or, Some, refl, sym, ap, subst, ◌∙◌, true≢false, arith, w64}
use Rattle.std.specs.Int.{bit_at}
use Rattle.std.proofs.lemmas.Bool.{cases_lt, eqb-true, eq-eqb, ne_eqb}
use Rattle.std.proofs.lemmas.Bool.Decides.{nat_tests}
use Rattle.std.proofs.lemmas.Nat.Bits.{bit_at-trailing_zeros}
use lib.Bits.{bit_and}
use lib.Count.{count_trailing_zeros}
use Rattle.facet_format.specs.Bytes.{backslash}
use Rattle.facet_json_token.specs.Gap.{Mode}
use Rattle.facet_json_parser.specs.Inner.Marks.{test, xor, inside, is_quote, is_backslash, is_calm, is_hard, is_marked}
use Rattle.facet_json_parser.specs.Inner.Passing.{IsPassed, InText, Outside}
use Rattle.facet_json_parser.proofs.Bits.Test.{test-and, shl, test-shl_high, test-shl_low, top_bit}
use Rattle.facet_json_parser.proofs.BlockBits.{test-none, test-all}
use Rattle.facet_json_parser.proofs.PassedBlocks.{here, run-passed}

pub test-one : (x i : ℕ) → x / 2 ^ i % 2 ≡ 1 → test x i ≡ true
unfolding test
test-one x i e = eq-eqb (x / 2 ^ i % 2) 1 e

pub test-other : (x i : ℕ) → (x / 2 ^ i % 2 ≡ 1 → ⊥) → test x i ≡ false
unfolding test
test-other x i n = ne_eqb (x / 2 ^ i % 2) 1 n

pub bit-test : (x i : ℕ) → bit_at x i ≡ 1 → test x i ≡ true
unfolding test
bit-test x i e = eq-eqb (bit_at x i) 1 e

pub bit-clear : (x i : ℕ) → bit_at x i ≡ 0 → test x i ≡ false
unfolding test
bit-clear x i e = ne_eqb (bit_at x i) 1 (λ one. omega (arith, one, e))

-- what is left from a place on
pub left-below : (left k i : ℕ) → k < 64 → i < k → test (bit_and left (shl k 18446744073709551615)) i ≡ false
left-below left k i h lt =
    test-and left (shl k 18446744073709551615) i ∙ ap (λ b. test left i && b) (test-shl_low k i 18446744073709551615 lt (omega arith)) ∙ and-none (test left i)
  where
    and-none : (a : Bool) → (a && false) ≡ false
    and-none true = refl
    and-none false = refl

pub left-from : (left k i : ℕ) → k ≤ i → i < 64 → test (bit_and left (shl k 18446744073709551615)) i ≡ test left i
left-from left k i le h =
    let j = i - k in
    let e : k + j ≡ i = omega arith in
    test-and left (shl k 18446744073709551615) i
    ∙ ap (λ b. test left i && b) (ap (test (shl k 18446744073709551615)) (sym e) ∙ test-shl_high k j 18446744073709551615 (omega arith) ∙ test-all j (omega arith)) ∙ and-all (test left i)
  where
    and-all : (a : Bool) → (a && true) ≡ a
    and-all true = refl
    and-all false = refl

hard_from : (c h : Bool) → (not (c || true) || h) ≡ true → h ≡ true
hard_from true h e = e
hard_from false h e = e

first_of : (s x : Bool) → (s && x) ≡ true → s ≡ true
first_of true x e = refl
first_of false x e = cc

-- a mark is not calm
uncalm : (c s x : Bool) → (s ≡ true → c ≡ false) → (not (c || false) || (s && x)) ≡ true → c ≡ false
uncalm false s x hard e = refl
uncalm true true x hard e = hard refl
uncalm true false x hard e = cc

module _ (buffer : List ℕ) (mode : Mode) (settled at : ℕ) (within : Bool) (v : List ℕ) (room : at + 64 ≤ length buffer)
    (same : (i : ℕ) → i < 64 → get_or v i 0 ≡ get_or buffer (at + i) 0) where
  unquoted : (i : ℕ) (w : Bool) → is_quote (get_or v i 0) ≡ false → xor w (is_quote (get_or v i 0)) ≡ w
  unquoted i w e = ap (xor w) e ∙ xor-none w
    where
      xor-none : (a : Bool) → xor a false ≡ a
      xor-none true = refl
      xor-none false = refl

  still : (i : ℕ) → is_quote (get_or v i 0) ≡ false → inside within v i ≡ inside within v (suc i)
  unfolding inside
  still i e = sym (unquoted i (inside within v i) e)

  -- A mark within a text is a backslash.
  pub text-there : (i : ℕ) → i < 64 → is_marked within v i ≡ true → inside within v (suc i) ≡ true → IsPassed buffer mode settled (at + i) (inside within v i) →
      InText buffer mode settled (at + i) × (slice_get buffer (at + i) ≡ Some backslash)
  text-there i h m w p =
      let hard = hard_from (is_calm (get_or v i 0)) (is_hard v i) (sym (ap (λ x. not (is_calm (get_or v i 0) || x) || is_hard v i) w) ∙ m) in
      let b : get_or v i 0 ≡ backslash = eqb-true _ backslash (first_of (is_backslash (get_or v i 0)) _ hard) in
      let q : is_quote (get_or v i 0) ≡ false = ap is_quote b in
      (subst (IsPassed buffer mode settled (at + i)) (still i q ∙ w) p, here buffer mode settled at within v room same i h ∙ ap Some b)

  -- Another one is a byte that is not calm.
  pub token-there : (i : ℕ) → i < 64 → is_marked within v i ≡ true → inside within v (suc i) ≡ false → IsPassed buffer mode settled (at + i) (inside within v i) →
      Outside buffer mode settled (at + i) × (is_calm (get_or buffer (at + i) 0) ≡ false)
  token-there i h m w p =
      let b = get_or v i 0 in
      let calm = uncalm (is_calm b) (is_backslash b) ((is_quote (get_or v (suc i) 0) || is_backslash (get_or v (suc i) 0)) || (i == 63)) (λ s. ap is_calm (eqb-true b backslash s))
      (sym (ap (λ x. not (is_calm b || x) || is_hard v i) w) ∙ m) in
      let q : is_quote b ≡ false = grind (arith, nat_tests) in
      (subst (IsPassed buffer mode settled (at + i)) (still i q ∙ w) p, ap is_calm (sym (same i h)) ∙ calm)

  -- The next mark is reached.
  pub reached : (left front i : ℕ) → ((j : ℕ) → j < front → test left j ≡ false) → ((j : ℕ) → front ≤ j → j < 64 → test left j ≡ is_marked within v j) →
      i < 64 → test left i ≡ true → ((j : ℕ) → j < i → test left j ≡ false) → IsPassed buffer mode settled (at + front) (inside within v front) →
      (front ≤ i) × (is_marked within v i ≡ true) × IsPassed buffer mode settled (at + i) (inside within v i)
  reached left front i zeros ones h set clear p = go (cases_lt i front)
    where
      go : (i < front) ⊎ (front ≤ i) → (front ≤ i) × (is_marked within v i ≡ true) × IsPassed buffer mode settled (at + i) (inside within v i)
      go (inl l) = absurd (true≢false (sym set ∙ zeros i l))
      go (inr g) =
          let k = i - front in
          let e : front + k ≡ i = omega arith in (
            g,
            sym (ones i g h) ∙ set,
            subst (λ n. IsPassed buffer mode settled (at + n) (inside within v n)) e
                (run-passed buffer mode settled at within v room same front k (omega arith) (λ n low high. sym (ones n low (omega arith)) ∙ clear n (omega arith)) p),
          )

  -- Where no mark is left, the block is passed.
  pub all-passed : (left front : ℕ) → left ≡ 0 → front ≤ 64 → ((j : ℕ) → front ≤ j → j < 64 → test left j ≡ is_marked within v j) →
      IsPassed buffer mode settled (at + front) (inside within v front) → IsPassed buffer mode settled (at + 64) (inside within v 64)
  all-passed left front none le ones p =
      let k = 64 - front in
      let e : front + k ≡ 64 = omega arith in
      subst (λ n. IsPassed buffer mode settled (at + n) (inside within v n)) e
      (run-passed buffer mode settled at within v room same front k (omega arith) (λ n low high. sym (ones n low (omega arith)) ∙ ap (λ x. test x n) none ∙ test-none n (omega arith)) p)

  -- The last bit says whether a text goes on behind the block.
  pub last-text : (texts : ℕ) → texts < 2 ^ 64 → ((i : ℕ) → i < 64 → test texts i ≡ inside within v (suc i)) → (texts / 2 ^ 63 == 1) ≡ inside within v 64
  last-text texts fits are = top_bit texts fits ∙ are 63 (omega arith)

  -- Nothing of the block is passed yet.
  pub start-bytes : IsPassed buffer mode settled at within → IsPassed buffer mode settled (at + 0) (inside within v 0)
  unfolding inside
  start-bytes p =
      let e : at ≡ at + 0 = omega arith in
      subst (λ n. IsPassed buffer mode settled n within) e p

  -- The lowest bit is the next mark.
  pub next-mark : (left front : ℕ) → ((j : ℕ) → j < front → test left j ≡ false) → ((j : ℕ) → front ≤ j → j < 64 → test left j ≡ is_marked within v j) →
      0 < left → left < 2 ^ 64 → IsPassed buffer mode settled (at + front) (inside within v front) →
      (count_trailing_zeros 64 left < 64) × (front ≤ count_trailing_zeros 64 left) × (is_marked within v (count_trailing_zeros 64 left) ≡ true)
      × IsPassed buffer mode settled (at + count_trailing_zeros 64 left) (inside within v (count_trailing_zeros 64 left))
  next-mark left front zeros ones some fits p =
      let low = bit_at-trailing_zeros w64 left some fits in
      let there = reached left front (count_trailing_zeros 64 left) zeros ones low.0 (bit-test left _ low.1) (λ j h. bit-clear left j (low.2 j h)) p in
      (low.0, there.0, there.1, there.2)

  -- No text goes on behind a byte.
  pub outside-behind : (texts k : ℕ) → 0 < k → k < 64 → ((i : ℕ) → i < 64 → test texts i ≡ inside within v (suc i)) → (texts / 2 ^ (k - 1) % 2 ≡ 1 → ⊥) → inside within v k ≡ false
  outside-behind texts k some h are none =
      let e : k ≡ suc (k - 1) = omega arith in
      ap (inside within v) e ∙ sym (are (k - 1) (omega arith)) ∙ test-other texts (k - 1) none
