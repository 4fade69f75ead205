-- A text as it is written (RFC 8259, section 7).
use Rattle.std.specs.Prelude.{ℕ, ◌/◌, ◌%◌, ◌+◌, cond, ◌==◌, ◌||◌, nat_lt, List, [], ◌∷◌, ◌++◌, codes}
use Rattle.std.specs.List.{flat_map}
use Rattle.facet_format.specs.Bytes.{quote, backslash, lower_b, lower_f, lower_n, lower_r, lower_t, backspace, form_feed, line_feed, carriage_return, tab, space, delete}

-- a lower-case hexadecimal digit
abbrev pub hex_digit : ℕ → ℕ
hex_digit n = cond (nat_lt n 10) (n + 0x30) (n + 0x57)

-- two of them
abbrev pub hex_byte : ℕ → List ℕ
hex_byte b = hex_digit (b / 16) ∷ hex_digit (b % 16) ∷ []

-- what stands between the quotes for one byte of the text in UTF-8: an escape of an ASCII character, or the byte
unfoldable pub escaped : ℕ → List ℕ
escaped b =
    cond ((b == quote) || (b == backslash)) (backslash ∷ b ∷ [])
    (cond (b == line_feed) (backslash ∷ lower_n ∷ []) (cond (b == carriage_return) (backslash ∷ lower_r ∷ [])
    (cond (b == tab) (backslash ∷ lower_t ∷ []) (cond (b == backspace) (backslash ∷ lower_b ∷ []) (cond (b == form_feed) (backslash ∷ lower_f ∷ [])
    (cond (nat_lt b space || (b == delete)) (codes "\\u00" ++ hex_byte b) (b ∷ [])))))))

-- the text between quotes
abbrev pub quoted : List ℕ → List ℕ
quoted text = quote ∷ flat_map escaped text ++ quote ∷ []
