-- What the bits of two words say of 64 bytes: which of them must be looked at, and behind which a text goes on.
use Rattle.std.specs.Prelude.{ℕ, zero, suc, Bool, true, false, not, ◌&&◌, ◌||◌, ◌==◌, nat_le, List, get_or}
use Rattle.std.specs.Int.{bit_at}
use Rattle.facet_format.specs.Bytes.{space, tab, line_feed, carriage_return, quote, comma}
pub use Rattle.facet_json_token.specs.Inner.Run.{is_backslash}

abbrev pub xor : Bool → Bool → Bool
xor true b = not b
xor false b = b

-- whether bit i of x is set
unfoldable pub test : ℕ → ℕ → Bool
test x i = bit_at x i == 1

-- the xor of the bits below n
unfoldable pub parity : ℕ → ℕ → Bool
parity x zero = false
parity x (suc i) = xor (parity x i) (test x i)

abbrev pub is_quote : ℕ → Bool
is_quote b = b == quote

-- white space, a comma, a colon, a digit or a quote: outside of texts these need no look
abbrev pub is_calm : ℕ → Bool
is_calm b = (b == space) || (b == line_feed) || (b == carriage_return) || (b == tab) || (b == quote) || (b == comma) || (nat_le 48 b && nat_le b 58)

-- Whether a text goes on before byte i of these, where it does or not before the first: each quote begins one or ends it.
unfoldable pub inside : Bool → List ℕ → ℕ → Bool
inside within bytes zero = within
inside within bytes (suc i) = xor (inside within bytes i) (is_quote (get_or bytes i 0))

-- a backslash before a quote, a backslash or bytes that are not known
abbrev pub is_hard : List ℕ → ℕ → Bool
is_hard bytes i = is_backslash (get_or bytes i 0) && ((is_quote (get_or bytes (suc i) 0) || is_backslash (get_or bytes (suc i) 0)) || (i == 63))

-- Byte i of these must be looked at.
abbrev pub is_marked : Bool → List ℕ → ℕ → Bool
is_marked within bytes i = not (is_calm (get_or bytes i 0) || inside within bytes (suc i)) || is_hard bytes i
