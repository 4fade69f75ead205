-- Single contents with their texts, and texts with the numbers that they are, by computation.
-- In the texts of this file a backslash or a quote stands after a backslash of its own.
use Rattle.std.proofs.Common.{◌≡◌, [], ◌∷◌, ◌++◌, Some, None, pos, neg_ℤ, codes, refl}
use Rattle.std.specs.Char.{encode_utf8}
use Rattle.std.specs.Str.{encode_utf8_all}
use Rattle.facet_format.specs.Bytes.{quote, backslash, backspace, form_feed, line_feed, carriage_return, tab}
use Rattle.facet_json_token.specs.Decode.{short_escape, code_unit}
use Rattle.facet_json_token.specs.Decoded.{utf8_at, unit_at, escape_at, piece_at, decoded_past, decoded}
use Rattle.facet_format.specs.Number.{unsigned, signed, float}
use Rattle.facet_format.specs.NumberValue.{u64, u128, i64, i128, decimal, number}
use Rattle.facet_format.specs.NumberParts.{parts}

row_backslash : codes "\\u\"" ≡ backslash ∷ 0x75 ∷ quote ∷ []
row_backslash = refl

-- ---- contents

contents :
    -- empty
    (decoded (codes "") ≡ Some [])
    -- signed hex
    × (decoded (codes "\\u+123") ≡ None)
    -- short hex
    × (decoded (codes "\\u12") ≡ None)
    -- low first
    × (decoded (codes "\\udc00") ≡ None)
    -- high alone
    × (decoded (codes "\\ud800") ≡ None)
    -- high and letter
    × (decoded (codes "\\ud800A") ≡ None)
    -- high and unit
    × (decoded (codes "\\ud800\\u0041") ≡ None)
    -- high twice
    × (decoded (codes "\\ud800\\ud800") ≡ None)
    -- low then high
    × (decoded (codes "\\udc00\\ud800") ≡ None)
    -- least pair
    × (decoded (codes "\\ud800\\udc00") ≡ Some (0xf0 ∷ 0x90 ∷ 0x80 ∷ 0x80 ∷ []))
    -- greatest pair
    × (decoded (codes "\\uDBFF\\uDFFF") ≡ Some (0xf4 ∷ 0x8f ∷ 0xbf ∷ 0xbf ∷ []))
    -- pair
    × (decoded (codes "\\uD83D\\uDE00") ≡ Some (0xf0 ∷ 0x9f ∷ 0x98 ∷ 0x80 ∷ []))
    -- before surrogates
    × (decoded (codes "\\ud7ff") ≡ Some (0xed ∷ 0x9f ∷ 0xbf ∷ []))
    -- past surrogates
    × (decoded (codes "\\ue000") ≡ Some (0xee ∷ 0x80 ∷ 0x80 ∷ []))
    -- units
    × (decoded (codes "\\u0048\\u0065\\u006C\\u006C\\u006F") ≡ Some (codes "Hello"))
    -- zero
    × (decoded (codes "\\u0000") ≡ Some (0x00 ∷ []))
    -- no hex
    × (decoded (codes "\\u00g0") ≡ None)
    -- upper mark
    × (decoded (codes "\\U0041") ≡ Some (codes "U0041"))
    -- other letter
    × (decoded (codes "\\q") ≡ Some (codes "q"))
    -- line
    × (decoded (codes "hello\\nworld") ≡ Some (codes "hello" ++ line_feed ∷ codes "world"))
    -- quote
    × (decoded (codes "\\\"") ≡ Some (quote ∷ []))
    -- escaped backslash
    × (decoded (codes "\\\\") ≡ Some (backslash ∷ []))
    -- slash
    × (decoded (codes "\\/") ≡ Some (codes "/"))
    -- short
    × (decoded (codes "\\b\\f\\n\\r\\t") ≡ Some (backspace ∷ form_feed ∷ line_feed ∷ carriage_return ∷ tab ∷ []))
    -- backslash at end
    × (decoded (codes "a\\") ≡ None)
    -- control
    × (decoded (0x0a ∷ 0x01 ∷ []) ≡ Some (0x0a ∷ 0x01 ∷ []))
    -- chinese
    × (decoded (encode_utf8_all (codes "中文")) ≡ Some (encode_utf8_all (codes "中文")))
    -- korean
    × (decoded (encode_utf8_all (codes "한글")) ≡ Some (encode_utf8_all (codes "한글")))
    -- accent
    × (decoded (encode_utf8_all (codes "é")) ≡ Some (encode_utf8_all (codes "é")))
    -- emoji
    × (decoded (encode_utf8_all (codes "😀🎉")) ≡ Some (encode_utf8_all (codes "😀🎉")))
    -- chinese bytes
    × (decoded (encode_utf8_all (codes "中文")) ≡ Some (0xe4 ∷ 0xb8 ∷ 0xad ∷ 0xe6 ∷ 0x96 ∷ 0x87 ∷ []))
    -- lone byte
    × (decoded (0xff ∷ []) ≡ None)
    -- escaped lone byte
    × (decoded (0x5c ∷ 0xff ∷ []) ≡ None)
    -- escaped accent
    × (decoded (0x5c ∷ 0xc3 ∷ 0xa9 ∷ []) ≡ None)
    -- cut character
    × (decoded (0xe4 ∷ 0xb8 ∷ []) ≡ None)
    -- lone continuation
    × (decoded (0x80 ∷ []) ≡ None)
    -- overlong
    × (decoded (0xc0 ∷ 0x80 ∷ []) ≡ None)
    -- coded surrogate
    × (decoded (0xed ∷ 0xa0 ∷ 0x80 ∷ []) ≡ None)
    -- past last character
    × (decoded (0xf4 ∷ 0x90 ∷ 0x80 ∷ 0x80 ∷ []) ≡ None)
unfolding decoded_past piece_at escape_at unit_at code_unit short_escape utf8_at encode_utf8
contents = (refl, refl, refl, refl, refl, refl, refl, refl, refl, refl, refl, refl, refl, refl, refl, refl, refl, refl, refl, refl, refl, refl, refl, refl, refl, refl, refl, refl, refl, refl, refl, refl, refl, refl, refl, refl, refl, refl, refl)

-- ---- numbers

numbers :
    -- leading zeros
    (number (codes "007") unsigned ≡ Some (u64 7))
    -- nought
    × (number (codes "0") unsigned ≡ Some (u64 0))
    -- greatest u64
    × (number (codes "18446744073709551615") unsigned ≡ Some (u64 18446744073709551615))
    -- past u64
    × (number (codes "18446744073709551616") unsigned ≡ Some (u128 18446744073709551616))
    -- greatest u128
    × (number (codes "340282366920938463463374607431768211455") unsigned ≡ Some (u128 340282366920938463463374607431768211455))
    -- past u128
    × (number (codes "340282366920938463463374607431768211456") unsigned ≡ None)
    -- least i64
    × (number (codes "-9223372036854775808") signed ≡ Some (i64 (neg_ℤ (pos 9223372036854775808))))
    -- past i64
    × (number (codes "-9223372036854775809") signed ≡ Some (i128 (neg_ℤ (pos 9223372036854775809))))
    -- least i128
    × (number (codes "-170141183460469231731687303715884105728") signed ≡ Some (i128 (neg_ℤ (pos 170141183460469231731687303715884105728))))
    -- past i128
    × (number (codes "-170141183460469231731687303715884105729") signed ≡ None)
    -- minus nought
    × (number (codes "-0") signed ≡ Some (i64 (pos 0)))
    -- minus leading zeros
    × (number (codes "-007") signed ≡ Some (i64 (neg_ℤ (pos 7))))
    -- dot at end
    × (number (codes "1.") float ≡ Some (decimal (codes "1.")))
    -- minus dot
    × (number (codes "-.5") float ≡ Some (decimal (codes "-.5")))
    -- dot and exponent
    × (number (codes "1.e5") float ≡ Some (decimal (codes "1.e5")))
    -- exponent
    × (number (codes "1E+05") float ≡ Some (decimal (codes "1E+05")))
    -- fraction
    × (number (codes "1.5") float ≡ Some (decimal (codes "1.5")))
    -- no exponent
    × (number (codes "1e") float ≡ None)
    -- signed no exponent
    × (number (codes "1e-") float ≡ None)
    -- minus and dot
    × (number (codes "-.") float ≡ None)
    -- no mantissa
    × (number (codes "-e1") float ≡ None)
    -- dot first
    × (number (codes ".5") float ≡ None)
    -- bare minus
    × (number (codes "-") signed ≡ None)
    -- no digits
    × (number (codes "") unsigned ≡ None)
    -- plus
    × (number (codes "+5") unsigned ≡ None)
    -- two dots
    × (number (codes "1.5.2") float ≡ None)
    -- other hint
    × (number (codes "5") signed ≡ None)
    -- float hint
    × (number (codes "5") float ≡ None)
    -- minus float hint
    × (number (codes "-5") float ≡ None)
    -- minus unsigned hint
    × (number (codes "-5") unsigned ≡ None)
unfolding number parts
numbers = (refl, refl, refl, refl, refl, refl, refl, refl, refl, refl, refl, refl, refl, refl, refl, refl, refl, refl, refl, refl, refl, refl, refl, refl, refl, refl, refl, refl, refl, refl)
