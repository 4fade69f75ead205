-- Numbers that are digits alone.
use Rattle.std.proofs.Common.{◌≡◌, ◌≢◌, ℕ, zero, suc, ◌+◌, ◌<◌, ◌^◌, cond, ap, Some, None, true, false, List, [], ◌∷◌, length, take, get_or, sym, ◌∙◌, subst, arith}
use Rattle.std.specs.Prelude.{◌==◌, nat_lt}
use Rattle.std.proofs.lemmas.Bool.{lt-ltb}
use Rattle.facet_format.specs.Bytes.{is_digit}
use Rattle.facet_format.specs.Number.{AreDigits, none, digit, unsigned}
use Rattle.facet_format.specs.NumberValue.{unsigned_number, u64, u128, digits_value, number}
use Rattle.facet_format.specs.NumberParts.{is_number}
use Rattle.facet_format.proofs.DigitNumbers.{digits-number as digits-are_number}
use Rattle.facet_format.proofs.NumberText.{number-unsigned}
use Rattle.facet_format.proofs.NumberLaws.{is_number-complete}

next-digit : (bytes : List ℕ) (i : ℕ) → i < length bytes → AreDigits (take i bytes) → is_digit (get_or bytes i 0) ≡ true → AreDigits (take (suc i) bytes)
next-digit [] i h are is = absurd (omega arith)
next-digit (b ∷ bytes) zero h are is = digit b [] is none
next-digit (b ∷ bytes) (suc i) h (digit _ _ first others) is = digit b (take (suc i) bytes) first (next-digit bytes i (omega arith) others is)

-- One more digit.
pub digits-more : (bytes : List ℕ) (i : ℕ) → i < length bytes → AreDigits (take i bytes) → is_digit (get_or bytes i 0) ≡ true → AreDigits (take (i + 1) bytes)
digits-more bytes i h are is = let more : suc i ≡ i + 1 = omega arith in subst (λ k. AreDigits (take k bytes)) more (next-digit bytes i h are is)

-- Bytes are some, where they are not none by their number.
pub some-bytes : (bytes : List ℕ) → false ≡ (length bytes == 0) → bytes ≢ []
some-bytes [] e is = cc
some-bytes (b ∷ bytes) e is = cc

-- Digits, at least one, are a number without a sign.
pub digits-number : (bytes : List ℕ) → AreDigits bytes → bytes ≢ [] → is_number bytes unsigned ≡ true
digits-number bytes are some = is_number-complete bytes unsigned (digits-are_number bytes are some)

-- A number without a sign that fits 64 bits is what its digits spell.
pub short-number : (text : List ℕ) (n : ℕ) → is_number text unsigned ≡ true → n ≡ digits_value 0 text → n < 2 ^ 64 → Some (u64 n) ≡ number text unsigned
short-number text n is value fits =
    let small : nat_lt n (2 ^ 64) ≡ true = lt-ltb n (2 ^ 64) fits in
    sym (number-unsigned text is ∙ ap unsigned_number (sym value) ∙ ap (λ t. cond t (Some (u64 n)) (cond (nat_lt n (2 ^ 128)) (Some (u128 n)) None)) small)
