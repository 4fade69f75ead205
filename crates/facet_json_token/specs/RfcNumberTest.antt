-- A test for numbers of RFC 8259 (section 6), by the lengths of the parts that a numeral has.
use Rattle.std.specs.Prelude.{ℕ, zero, suc, ◌+◌, Bool, true, false, not, ◌==◌, ◌&&◌, nat_lt, List, [], ◌∷◌, length, drop}
use Rattle.facet_format.specs.NumberParts.{Parts, parts, parts_len, sign_len}

-- so many digits at the start, of which the first is not 0 where others follow
abbrev pub is_whole_of : ℕ → List ℕ → Bool
is_whole_of zero bytes = false
is_whole_of (suc zero) bytes = true
is_whole_of (suc (suc n)) [] = false
is_whole_of (suc (suc n)) (b ∷ bytes) = not (b == 0x30)

-- the length of a dot and digits is not that of a dot alone
abbrev pub is_fraction_of : ℕ → Bool
is_fraction_of n = not (n == 1)

-- an exponent of this length at the start has digits
abbrev pub is_exponent_of : ℕ → List ℕ → Bool
is_exponent_of zero bytes = true
is_exponent_of (suc n) [] = false
is_exponent_of (suc n) (mark ∷ bytes) = nat_lt (sign_len bytes) n

-- the parts of the number with which the text begins are those of a number of RFC 8259
abbrev pub are_rfc_parts : Parts → List ℕ → Bool
are_rfc_parts p text =
    is_whole_of p.digits (drop p.sign text) && is_fraction_of p.fraction && is_exponent_of p.exponent (drop (p.sign + p.digits + p.fraction) text)

-- whether the text is a number of RFC 8259
unfoldable pub is_rfc_number : List ℕ → Bool
is_rfc_number text = let p = parts text in (parts_len p == length text) && are_rfc_parts p text
