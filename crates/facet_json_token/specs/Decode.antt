-- What a string's content stands for (RFC 8259, section 7): the content is cut into pieces, each of which is one character.
use Rattle.std.specs.Prelude.{◌≡◌, ℕ, ◌+◌, ◌-◌, ◌*◌, Bool, true, false, cond, ◌==◌, ◌&&◌, ◌||◌, nat_lt, nat_le, List, [], ◌∷◌, ◌++◌, Option, Some, None}
use Rattle.std.specs.Char.{digit_value, encode_utf8, IsScalar}
use Rattle.facet_format.specs.Bytes.{quote, backslash, slash, lower_b, lower_f, lower_n, lower_r, lower_t, lower_u, backspace, form_feed, line_feed, carriage_return, tab}

-- the character of the escape of a backslash and this byte, where RFC 8259 has one
unfoldable pub short_escape : ℕ → Option ℕ
short_escape b =
    cond ((b == quote) || (b == backslash) || (b == slash)) (Some b)
    (cond (b == lower_b) (Some backspace) (cond (b == lower_f) (Some form_feed) (cond (b == lower_n) (Some line_feed)
    (cond (b == lower_r) (Some carriage_return) (cond (b == lower_t) (Some tab) None)))))

-- a hexadecimal digit of either case
abbrev pub is_hex : ℕ → Bool
is_hex b = nat_lt (digit_value b) 16

-- the number that four hexadecimal digits spell
unfoldable pub code_unit : ℕ → ℕ → ℕ → ℕ → Option ℕ
code_unit a b c d =
    cond (is_hex a && is_hex b && is_hex c && is_hex d) (Some (digit_value a * 0x1000 + digit_value b * 0x100 + digit_value c * 0x10 + digit_value d)) None

abbrev pub is_high_surrogate : ℕ → Bool
is_high_surrogate u = nat_le 0xd800 u && nat_lt u 0xdc00

abbrev pub is_low_surrogate : ℕ → Bool
is_low_surrogate u = nat_le 0xdc00 u && nat_lt u 0xe000

-- the character of a surrogate pair
abbrev pub surrogate_pair : ℕ → ℕ → ℕ
surrogate_pair high low = 0x10000 + (high - 0xd800) * 0x400 + (low - 0xdc00)

-- ---- what a content stands for

-- The bytes are a piece that stands for the character.
pub data Piece : List ℕ → ℕ → Type 0 where
  -- a character other than a backslash stands for itself
  itself : (c : ℕ) → IsScalar c → (c == backslash) ≡ false → Piece (encode_utf8 c) c
  short : (b c : ℕ) → short_escape b ≡ Some c → Piece (backslash ∷ b ∷ []) c
  -- any other ASCII character but `u`, lenient
  other : (b : ℕ) → nat_lt b 0x80 ≡ true → short_escape b ≡ None → (b == lower_u) ≡ false →
      Piece (backslash ∷ b ∷ []) b
  unit : (a b c d u : ℕ) → code_unit a b c d ≡ Some u → is_high_surrogate u ≡ false → is_low_surrogate u ≡ false →
      Piece (backslash ∷ lower_u ∷ a ∷ b ∷ c ∷ d ∷ []) u
  pair : (a b c d high e f g h low : ℕ) → code_unit a b c d ≡ Some high → is_high_surrogate high ≡ true →
      code_unit e f g h ≡ Some low → is_low_surrogate low ≡ true →
      Piece (backslash ∷ lower_u ∷ a ∷ b ∷ c ∷ d ∷ backslash ∷ lower_u ∷ e ∷ f ∷ g ∷ h ∷ []) (surrogate_pair high low)

-- The content is pieces whose characters are the text, which is in UTF-8.
pub data Decodes : List ℕ → List ℕ → Type 0 where
  empty : Decodes [] []
  piece : (first others content : List ℕ) (c : ℕ) (rest text : List ℕ) → Piece first c → Decodes others rest →
      content ≡ first ++ others → text ≡ encode_utf8 c ++ rest → Decodes content text
