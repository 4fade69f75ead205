-- What the reader takes for digits and escapes, and what RFC 8259 does: the same characters.
use Rattle.std.proofs.Common.{◌≡◌, ℕ, true, false, ◌==◌, Some, None, arith}
use Rattle.std.proofs.lemmas.Bool.Decides.{nat_tests}
use Rattle.facet_format.specs.Bytes.{lower_u}
use Rattle.facet_json_token.specs.Decode.{short_escape, is_hex}
use Rattle.facet_json_token.specs.Strict.{is_named}
use Rattle.facet_json_grammar.specs.RfcText.{is_escapable, is_hex_digit}

pub hex-is_digit : (c : ℕ) → is_hex c ≡ true → is_hex_digit c ≡ true
hex-is_digit c e = grind (arith, nat_tests)

pub escape-is_escapable : (b c : ℕ) → short_escape b ≡ Some c → is_escapable b ≡ true
unfolding short_escape
escape-is_escapable b c e = grind (arith, nat_tests)

-- What stands for itself after a backslash where the reader is lenient has no name there.
pub lenient-unnamed : (b : ℕ) → short_escape b ≡ None → (b == lower_u) ≡ false → is_named b ≡ false
unfolding short_escape
lenient-unnamed b e other = grind (arith, nat_tests)

pub escapable-is_named : (b : ℕ) → is_escapable b ≡ true → is_named b ≡ true
escapable-is_named b e = grind (arith, nat_tests)
