-- Single contents with their first faults, by computation: each row of the table of faults, and which of two comes first.
-- In the texts of this file a backslash stands after a backslash of its own.
use Rattle.std.proofs.Common.{◌≡◌, [], ◌∷◌, Some, None, codes, refl}
use Rattle.std.specs.Char.{encode_utf8}
use Rattle.facet_json_token.specs.Decode.{short_escape, code_unit}
use Rattle.facet_json_token.specs.Decoded.{utf8_at, unit_at, escape_at, piece_at}
use Rattle.facet_json_token.specs.Fault.{decode_fault_at, ends_in_escape, ends_in_digits, not_digits, no_character}
use Rattle.facet_json_token.specs.FirstFault.{fault_of, fault_past, first_fault}

first_faults :
    -- lone backslash
    (first_fault (codes "a\\") ≡ Some (decode_fault_at ends_in_escape 1 1))
    -- few digits
    × (first_fault (codes "a\\u12") ≡ Some (decode_fault_at ends_in_digits 1 4))
    -- no digit
    × (first_fault (codes "ab\\t\\u") ≡ Some (decode_fault_at ends_in_digits 4 2))
    -- signed digits
    × (first_fault (codes "\\u+123") ≡ Some (decode_fault_at not_digits 2 4))
    -- letters
    × (first_fault (codes "\\u00g0\\") ≡ Some (decode_fault_at not_digits 2 4))
    -- high alone
    × (first_fault (codes "a\\ud800") ≡ Some (decode_fault_at no_character 1 6))
    -- high and letter
    × (first_fault (codes "\\ud800A") ≡ Some (decode_fault_at no_character 0 6))
    -- high and few digits
    × (first_fault (codes "\\ud800\\u004") ≡ Some (decode_fault_at no_character 0 6))
    -- high and short
    × (first_fault (codes "\\ud800\\n0041") ≡ Some (decode_fault_at no_character 0 6))
    -- second letters
    × (first_fault (codes "\\ud800\\u00zz") ≡ Some (decode_fault_at not_digits 8 4))
    -- high and unit
    × (first_fault (codes "\\ud800\\u0041") ≡ Some (decode_fault_at no_character 8 4))
    -- high twice
    × (first_fault (codes "a\\ud800\\ud800") ≡ Some (decode_fault_at no_character 9 4))
    -- low first
    × (first_fault (codes "\\udc00\\ud800") ≡ Some (decode_fault_at no_character 2 4))
    -- escaped lone byte
    × (first_fault (0x5c ∷ 0xff ∷ []) ≡ Some (decode_fault_at no_character 1 1))
    -- escaped accent
    × (first_fault (0x61 ∷ 0x5c ∷ 0xc3 ∷ 0xa9 ∷ []) ≡ Some (decode_fault_at no_character 2 1))
    -- lone byte
    × (first_fault (0x61 ∷ 0x80 ∷ []) ≡ Some (decode_fault_at no_character 1 1))
    -- cut character
    × (first_fault (0x61 ∷ 0xe4 ∷ 0xb8 ∷ 0x5c ∷ 0x6e ∷ []) ≡ Some (decode_fault_at no_character 1 1))
    -- coded surrogate
    × (first_fault (0xc3 ∷ 0xa9 ∷ 0xed ∷ 0xa0 ∷ 0x80 ∷ []) ≡ Some (decode_fault_at no_character 2 1))
    -- bytes after digits
    × (first_fault (0x5c ∷ 0x75 ∷ 0x30 ∷ 0x67 ∷ 0x30 ∷ 0x30 ∷ 0xff ∷ []) ≡ Some (decode_fault_at not_digits 2 4))
    -- digits after bytes
    × (first_fault (0xff ∷ 0x5c ∷ 0x75 ∷ 0x30 ∷ 0x67 ∷ 0x30 ∷ 0x30 ∷ []) ≡ Some (decode_fault_at no_character 0 1))
    -- text
    × (first_fault (codes "caf\\u00e9\\n\\q") ≡ None)
unfolding fault_past fault_of piece_at escape_at unit_at code_unit short_escape utf8_at encode_utf8
first_faults = (refl, refl, refl, refl, refl, refl, refl, refl, refl, refl, refl, refl, refl, refl, refl, refl, refl, refl, refl, refl, refl)
