-- The text that a string's content stands for, computed.
use Rattle.std.specs.Prelude.{ℕ, zero, suc, ◌+◌, ◌-◌, ◌*◌, cond, ◌==◌, ◌&&◌, nat_lt, List, [], ◌∷◌, ◌++◌, take, Option, Some, None}
use Rattle.std.specs.Option.{option_map}
use Rattle.std.specs.Char.{encode_utf8}
use Rattle.std.specs.Str.{continuation_len, lead_bits, bytes_eq}
use lib.Utf8.{scalar}
use Rattle.facet_format.specs.Bytes.{backslash, lower_u}
use Rattle.facet_json_token.specs.Decode.{short_escape, code_unit, is_high_surrogate, is_low_surrogate, surrogate_pair}

-- the number of these bits and those of continuation bytes
abbrev pub continued : ℕ → List ℕ → ℕ
continued n [] = n
continued n (b ∷ bytes) = continued (n * 64 + (b - 128)) bytes

-- a character, where its UTF-8 is the prefix of the bytes, with the number of its bytes
abbrev pub if_encoded : ℕ → ℕ → List ℕ → Option (ℕ × ℕ)
if_encoded c n bytes = cond (scalar c && bytes_eq (encode_utf8 c) (take n bytes)) (Some (c, n)) None

-- the character whose UTF-8 stands at the start, with the number of its bytes
unfoldable pub utf8_at : List ℕ → Option (ℕ × ℕ)
utf8_at [] = None
utf8_at (b ∷ bytes) = if_encoded (continued (lead_bits b) (take (continuation_len b) bytes)) (suc (continuation_len b)) (b ∷ bytes)

-- a high surrogate's escape, and these bytes
abbrev pub pair_of : ℕ → Option ℕ → Option (ℕ × ℕ)
pair_of high None = None
pair_of high (Some low) = cond (is_low_surrogate low) (Some (surrogate_pair high low, 12)) None

abbrev pub low_at : ℕ → List ℕ → Option (ℕ × ℕ)
low_at high (s ∷ u ∷ a ∷ b ∷ c ∷ d ∷ bytes) = cond ((s == backslash) && (u == lower_u)) (pair_of high (code_unit a b c d)) None
low_at high _ = None

abbrev pub unit_of : List ℕ → Option ℕ → Option (ℕ × ℕ)
unit_of bytes None = None
unit_of bytes (Some u) = cond (is_high_surrogate u) (low_at u bytes) (cond (is_low_surrogate u) None (Some (u, 6)))

-- the piece of a backslash, `u` and these bytes
unfoldable pub unit_at : List ℕ → Option (ℕ × ℕ)
unit_at (a ∷ b ∷ c ∷ d ∷ bytes) = unit_of bytes (code_unit a b c d)
unit_at _ = None

abbrev pub short_of : ℕ → Option ℕ → Option (ℕ × ℕ)
short_of b (Some c) = Some (c, 2)
short_of b None = cond (nat_lt b 0x80) (Some (b, 2)) None

-- the piece of a backslash and these bytes
unfoldable pub escape_at : List ℕ → Option (ℕ × ℕ)
escape_at [] = None
escape_at (b ∷ bytes) = cond (b == lower_u) (unit_at bytes) (short_of b (short_escape b))

-- the character of the piece at the start, with the number of the piece's bytes
unfoldable pub piece_at : List ℕ → Option (ℕ × ℕ)
piece_at [] = None
piece_at (b ∷ bytes) = cond (b == backslash) (escape_at bytes) (utf8_at (b ∷ bytes))

-- the text of what stands after the next `inside` bytes, which belong to the piece before
unfoldable pub decoded_past : ℕ → List ℕ → Option (List ℕ)
decoded_past inside [] = elim inside [ zero ↦ Some [] | suc n ↦ None ]
decoded_past (suc inside) (b ∷ bytes) = decoded_past inside bytes
decoded_past zero (b ∷ bytes) = elim (piece_at (b ∷ bytes)) [ None ↦ None | Some p ↦ option_map (λ text. encode_utf8 p.0 ++ text) (decoded_past (p.1 - 1) bytes) ]

-- the text of a content, or none
abbrev pub decoded : List ℕ → Option (List ℕ)
decoded content = decoded_past 0 content
