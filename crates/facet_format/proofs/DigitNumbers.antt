-- Digits alone, and digits after a minus, are numbers (RFC 8259, section 6).
use Rattle.std.proofs.Common.{◌≡◌, ◌≢◌, ℕ, true, false, List, [], ◌∷◌, ◌++◌, drop, refl, sym, ap, ◌∙◌}
use Rattle.std.proofs.lemmas.Bool.{both_ways}
use Rattle.std.proofs.lemmas.List.{append-nil}
use Rattle.facet_format.specs.Bytes.{minus, is_digit}
use Rattle.facet_format.specs.Number.{unsigned, signed, AreDigits, IsMinus, IsFraction, IsExponent, IsNumber}

-- No digits begin with a minus.
digits-no_minus : (bytes others : List ℕ) → AreDigits bytes → bytes ≢ minus ∷ others
digits-no_minus _ others AreDigits.none e = cc
digits-no_minus _ others (AreDigits.digit b bytes is are) e =
    let same : b ≡ minus = cc in
    both_ways (is_digit minus) refl (ap is_digit (sym same) ∙ is)

-- Digits are an unsigned number.
pub digits-number : (bytes : List ℕ) → AreDigits bytes → bytes ≢ [] → IsNumber bytes unsigned
digits-number bytes are some =
    record {
      numeral = record {
        sign = [];
        digits = bytes;
        fraction = [];
        exponent = [];
        has_minus = false;
        has_fraction = false;
        has_exponent = false;
        is_minus = IsMinus.absent;
        are_digits = are;
        is_fraction = IsFraction.absent;
        is_exponent = IsExponent.absent;
        whole = sym (append-nil (bytes ++ []) ∙ append-nil bytes);
        starts = some;
        kind = refl;
      };
      more = digits-no_minus bytes [] are;
    }

-- A minus and digits are a signed number.
pub minus-number : (bytes : List ℕ) → AreDigits bytes → bytes ≢ [] → IsNumber (minus ∷ bytes) signed
minus-number bytes are some =
    record {
      numeral = record {
        sign = minus ∷ [];
        digits = bytes;
        fraction = [];
        exponent = [];
        has_minus = true;
        has_fraction = false;
        has_exponent = false;
        is_minus = IsMinus.present;
        are_digits = are;
        is_fraction = IsFraction.absent;
        is_exponent = IsExponent.absent;
        whole = sym (append-nil (minus ∷ bytes ++ []) ∙ append-nil (minus ∷ bytes));
        starts = λ e. cc;
        kind = refl;
      };
      more = λ e. some (ap (drop 1) e);
    }
