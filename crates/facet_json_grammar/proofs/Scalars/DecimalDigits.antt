-- What is written of a whole number are digits.
use Rattle.std.proofs.Common.{◌≡◌, ℕ, zero, suc, ◌%◌, ◌/◌, ◌<◌, true, false, ◌==◌, List, [], ◌∷◌, arith}
use Rattle.std.specs.Fmt.{digit_glyph, digits_onto, digits, decimal}
use Rattle.std.proofs.lemmas.Bool.{cond_both}
use Rattle.std.proofs.lemmas.Bool.Decides.{nat_tests}
use Rattle.facet_format.specs.Bytes.{is_digit}
use Rattle.facet_format.specs.Number.{AreDigits}

-- A glyph below ten is a digit.
glyph-is_digit : (d : ℕ) → d < 10 → is_digit (digit_glyph false d) ≡ true
glyph-is_digit d small = grind (arith, nat_tests)

-- The last digits of a number before digits are digits.
onto-digits : (k n : ℕ) (acc : List ℕ) → AreDigits acc → AreDigits (digits_onto k 10 false n acc)
onto-digits zero n acc are = are
onto-digits (suc k) n acc are =
    let more = AreDigits.digit (digit_glyph false (n % 10)) acc (glyph-is_digit (n % 10) (omega arith)) are in
    cond_both (n / 10 == 0) _ _ AreDigits (λ _. more) (λ _. onto-digits k (n / 10) (digit_glyph false (n % 10) ∷ acc) more)

-- A number is written in digits.
pub decimal-digits : (n : ℕ) → AreDigits (decimal n)
unfolding digits
decimal-digits n = onto-digits 64 n [] AreDigits.none
