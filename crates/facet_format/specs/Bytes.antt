-- The bytes that the grammar of JSON names (RFC 8259, sections 2, 6 and 7), and the two of a JSONC comment.
use Rattle.std.specs.Prelude.{ℕ, Bool, ◌==◌, ◌||◌, ◌&&◌, nat_le}

abbrev pub tab : ℕ
tab = 0x09

abbrev pub line_feed : ℕ
line_feed = 0x0a

abbrev pub carriage_return : ℕ
carriage_return = 0x0d

abbrev pub space : ℕ
space = 0x20

abbrev pub backspace : ℕ
backspace = 0x08

abbrev pub form_feed : ℕ
form_feed = 0x0c

abbrev pub delete : ℕ
delete = 0x7f

-- "
abbrev pub quote : ℕ
quote = 0x22

-- \
abbrev pub backslash : ℕ
backslash = 0x5c

-- /
abbrev pub slash : ℕ
slash = 0x2f

-- *
abbrev pub star : ℕ
star = 0x2a

-- ,
abbrev pub comma : ℕ
comma = 0x2c

-- :
abbrev pub colon : ℕ
colon = 0x3a

-- {
abbrev pub left_brace : ℕ
left_brace = 0x7b

-- }
abbrev pub right_brace : ℕ
right_brace = 0x7d

-- [
abbrev pub left_bracket : ℕ
left_bracket = 0x5b

-- ]
abbrev pub right_bracket : ℕ
right_bracket = 0x5d

-- -
abbrev pub minus : ℕ
minus = 0x2d

-- +
abbrev pub plus : ℕ
plus = 0x2b

-- .
abbrev pub dot : ℕ
dot = 0x2e

abbrev pub lower_b : ℕ
lower_b = 0x62

abbrev pub lower_e : ℕ
lower_e = 0x65

abbrev pub upper_e : ℕ
upper_e = 0x45

abbrev pub lower_f : ℕ
lower_f = 0x66

abbrev pub lower_n : ℕ
lower_n = 0x6e

abbrev pub lower_r : ℕ
lower_r = 0x72

abbrev pub lower_t : ℕ
lower_t = 0x74

abbrev pub lower_u : ℕ
lower_u = 0x75

-- white space of RFC 8259, section 2
abbrev pub is_space : ℕ → Bool
is_space b = (b == space) || (b == tab) || (b == line_feed) || (b == carriage_return)

-- DIGIT of RFC 5234: 0 to 9
abbrev pub is_digit : ℕ → Bool
is_digit b = nat_le 0x30 b && nat_le b 0x39

-- the mark of an exponent
abbrev pub is_exponent_mark : ℕ → Bool
is_exponent_mark b = (b == lower_e) || (b == upper_e)

-- the sign of an exponent
abbrev pub is_sign : ℕ → Bool
is_sign b = (b == minus) || (b == plus)
