-- Six shifts and xors give each bit the xor of all bits up to it.
use Rattle.std.proofs.Common.{◌≡◌, ℕ, suc, ◌+◌, ◌-◌, ◌<◌, ◌≤◌, ◌⊎◌, inl, inr, Bool, true, false, refl, sym, ap, ap₂, ◌∙◌, arith, add-one}
use Rattle.std.proofs.lemmas.Bool.{cases_lt}
use lib.Bits.{bit_xor}
use Rattle.facet_json_parser.specs.Inner.Marks.{test, xor, parity}
use Rattle.facet_json_parser.proofs.Bits.Test.{test-xor, shl, test-shl_high, test-shl_low}

pub xor-false : (a : Bool) → xor a false ≡ a
xor-false true = refl
xor-false false = refl

pub xor_back : (a b : Bool) → xor (xor a b) a ≡ b
xor_back true true = refl
xor_back true false = refl
xor_back false true = refl
xor_back false false = refl

xor_chain : (a b c : Bool) → xor (xor a b) (xor b c) ≡ xor a c
xor_chain true true c = refl
xor_chain false false c = refl
xor_chain true false c = refl
xor_chain false true true = refl
xor_chain false true false = refl

-- each bit of y is the xor of the k bits of x that end there
abbrev Window : ℕ → ℕ → ℕ → Type 0
Window x k y = (i : ℕ) → i < 64 → test y i ≡ xor (parity x (suc i)) (parity x (suc i - k))

abbrev pub smear : ℕ → ℕ → ℕ
smear k y = bit_xor y (shl k y)

first : (x : ℕ) → Window x 1 x
unfolding parity
first x i h =
    let e : i ≡ suc i - 1 = omega arith in
    sym (xor_back (parity x i) (test x i)) ∙ ap (λ n. xor (parity x (suc i)) (parity x n)) e

double : (x k y : ℕ) → Window x k y → Window x (k + k) (smear k y)
double x k y w i h = test-xor y (shl k y) i ∙ go (cases_lt i k)
  where
    go : (i < k) ⊎ (k ≤ i) → xor (test y i) (test (shl k y) i) ≡ xor (parity x (suc i)) (parity x (suc i - (k + k)))
    go (inl l) = ap (xor (test y i)) (test-shl_low k i y l h) ∙ xor-false (test y i) ∙ w i h ∙ ap (λ n. xor (parity x (suc i)) (parity x n)) (omega arith)
    go (inr g) =
        let j = i - k in
        let e : i ≡ k + j = omega arith in
        let a : suc i - k ≡ suc j = omega arith in
        let b : suc j - k ≡ suc i - (k + k) = omega arith in
        ap₂ xor (w i h ∙ ap (λ n. xor (parity x (suc i)) (parity x n)) a) (ap (test (shl k y)) e ∙ test-shl_high k j y (omega arith) ∙ w j (omega arith))
        ∙ xor_chain (parity x (suc i)) (parity x (suc j)) (parity x (suc j - k)) ∙ ap (λ n. xor (parity x (suc i)) (parity x n)) b

pub prefix : (x i : ℕ) → i < 64 → test (smear 32 (smear 16 (smear 8 (smear 4 (smear 2 (smear 1 x)))))) i ≡ parity x (i + 1)
unfolding parity
prefix x i h =
    let e : suc i - 64 ≡ 0 = omega arith in
    double x 32 _ (double x 16 _ (double x 8 _ (double x 4 _ (double x 2 _ (double x 1 x (first x)))))) i h
    ∙ ap (λ n. xor (parity x (suc i)) (parity x n)) e ∙ xor-false (parity x (suc i)) ∙ ap (parity x) (sym (add-one i))
