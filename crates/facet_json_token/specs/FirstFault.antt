-- The first fault of a string's content, as rows compute it: the test that a law holds to be the definition.
use Rattle.std.specs.Prelude.{◌≡◌, ℕ, zero, suc, ◌+◌, ◌-◌, cond, ◌==◌, ◌&&◌, List, [], ◌∷◌, length, Option, Some, None, ◌↔◌}
use Rattle.facet_format.specs.Bytes.{backslash, lower_u}
use Rattle.facet_json_token.specs.Decode.{code_unit, is_high_surrogate}
use Rattle.facet_json_token.specs.Decoded.{piece_at}
use Rattle.facet_json_token.specs.Fault.{DecodeFault, ends_in_escape, ends_in_digits, not_digits, no_character, decode_fault_at, fault_after, FirstFault}

abbrev pub second_fault : Option ℕ → DecodeFault
second_fault None = decode_fault_at not_digits 8 4
second_fault (Some u) = decode_fault_at no_character 8 4

-- the fault of a high surrogate's escape, and these bytes after it
abbrev pub pair_fault : List ℕ → DecodeFault
pair_fault (s ∷ u ∷ a ∷ b ∷ c ∷ d ∷ bytes) =
    cond ((s == backslash) && (u == lower_u)) (second_fault (code_unit a b c d)) (decode_fault_at no_character 0 6)
pair_fault _ = decode_fault_at no_character 0 6

abbrev pub digits_fault : List ℕ → Option ℕ → DecodeFault
digits_fault bytes None = decode_fault_at not_digits 2 4
digits_fault bytes (Some u) = cond (is_high_surrogate u) (pair_fault bytes) (decode_fault_at no_character 2 4)

-- the fault of a backslash, `u` and these bytes
abbrev pub unit_fault : List ℕ → DecodeFault
unit_fault (a ∷ b ∷ c ∷ d ∷ bytes) = digits_fault bytes (code_unit a b c d)
unit_fault digits = decode_fault_at ends_in_digits 0 (2 + length digits)

abbrev pub escape_fault : List ℕ → DecodeFault
escape_fault [] = decode_fault_at ends_in_escape 0 1
escape_fault (b ∷ bytes) = cond (b == lower_u) (unit_fault bytes) (decode_fault_at no_character 1 1)

-- the fault at the start of bytes that begin with no piece
unfoldable pub fault_of : List ℕ → DecodeFault
fault_of (b ∷ bytes) = cond (b == backslash) (escape_fault bytes) (decode_fault_at no_character 0 1)
fault_of [] = decode_fault_at no_character 0 0

-- the first fault of what stands after the next `inside` bytes, which belong to the piece before; `passed` bytes stand before
unfoldable pub fault_past : ℕ → ℕ → List ℕ → Option DecodeFault
fault_past passed inside [] = None
fault_past passed (suc inside) (b ∷ bytes) = fault_past (suc passed) inside bytes
fault_past passed zero (b ∷ bytes) =
    elim (piece_at (b ∷ bytes))
    [ None ↦ Some (fault_after passed (fault_of (b ∷ bytes))) | Some p ↦ fault_past (suc passed) (p.1 - 1) bytes ]

-- the first fault of a content, or none
abbrev pub first_fault : List ℕ → Option DecodeFault
first_fault content = fault_past 0 0 content

-- The fault that is computed is the first one of the content.
abbrev pub FirstFaultIsFound : Type 0
FirstFaultIsFound = (content : List ℕ) (f : DecodeFault) → (first_fault content ≡ Some f) ↔ FirstFault content f
