-- The text of a tree, compact or indented (RFC 8259, sections 2 to 7).
use Rattle.std.specs.Prelude.{ℕ, zero, suc, ◌+◌, ◌-◌, Bool, true, false, cond, nat_lt, min, List, [], ◌∷◌, ◌++◌, length, take, drop, Option, Some, None, codes}
use Rattle.std.specs.List.{flat_map}
use Rattle.std.specs.Char.{encode_utf8}
use Rattle.std.specs.Fmt.{decimal, signed_decimal}
use Rattle.facet_format.specs.Bytes.{left_bracket, right_bracket, left_brace, right_brace, colon, comma, space, line_feed}
use Rattle.facet_json_grammar.specs.Quoted.{quoted, hex_byte}
use Rattle.facet_json_grammar.specs.Tree.{Tree, null, unit, bool, char, i64, u64, i128, u128, decimal as decimal_text, text as text_value, bytes, raw, list, pairs, Trees, no_trees, tree, Pairs, no_pairs, pair}

-- how bytes are written: as an array of numbers, or as hexadecimal digits, of which only some at either end stand where there are
-- more bytes than the limit
pub data BytesFormat : Type 0 where
  as_array : BytesFormat
  as_hex : (truncate_above : Option ℕ) (head tail : ℕ) → BytesFormat

pub record Options : Type 0 where
  pub pretty : Bool
  pub indent : List ℕ
  pub bytes_format : BytesFormat

-- compact, with bytes as arrays
abbrev pub default_options : Options
default_options = record { pretty = false; indent = codes "  "; bytes_format = as_array }

-- ---- bytes

abbrev pub more_numbers : List ℕ → List ℕ
more_numbers [] = []
more_numbers (b ∷ others) = comma ∷ decimal b ++ more_numbers others

-- the numbers, separated by commas
abbrev pub numbers : List ℕ → List ℕ
numbers [] = []
numbers (b ∷ others) = decimal b ++ more_numbers others

-- the digits of the first bytes, how many are left out, and the digits of the last
abbrev pub shortened : List ℕ → ℕ → ℕ → List ℕ
shortened all head tail =
    let front = min head (length all) in
    let back = min tail (length all - front) in
    let left_out = length all - front - back in
    flat_map hex_byte (take front all) ++ codes "..<" ++ decimal left_out ++ codes " bytes>.."
    ++ flat_map hex_byte (drop (front + left_out) all)

-- the hexadecimal text of bytes
abbrev pub hex : List ℕ → Option ℕ → ℕ → ℕ → List ℕ
hex all None head tail = flat_map hex_byte all
hex all (Some limit) head tail = cond (nat_lt limit (length all)) (shortened all head tail) (flat_map hex_byte all)

abbrev pub bytes_text : BytesFormat → List ℕ → List ℕ
bytes_text as_array all = left_bracket ∷ numbers all ++ right_bracket ∷ []
bytes_text (as_hex limit head tail) all = codes "\"0x" ++ hex all limit head tail ++ codes "\""

-- ---- trees

abbrev pub indents : ℕ → List ℕ → List ℕ
indents zero indent = []
indents (suc n) indent = indent ++ indents n indent

-- a new line at this depth, where the text is indented
abbrev pub new_line : Options → ℕ → List ℕ
new_line o depth = cond o.pretty (line_feed ∷ indents depth o.indent) []

-- nothing before the first, a comma before each other
abbrev pub separator : Bool → List ℕ
separator first = cond first [] (comma ∷ [])

-- what stands before a closing bracket: nothing where the container is empty
abbrev pub line_at_end : Options → ℕ → Bool → List ℕ
line_at_end o depth first = cond first [] (new_line o depth)

abbrev pub colon_text : Options → List ℕ
colon_text o = cond o.pretty (colon ∷ space ∷ []) (colon ∷ [])

abbrev pub bool_text : Bool → List ℕ
bool_text true = codes "true"
bool_text false = codes "false"

unfoldable mutual
  -- the text of a tree that stands in this many containers
  pub text : Options → ℕ → Tree → List ℕ
  text o depth null = codes "null"
  text o depth unit = codes "null"
  text o depth (bool b) = bool_text b
  text o depth (char c) = quoted (encode_utf8 c)
  text o depth (i64 n) = signed_decimal n
  text o depth (u64 n) = decimal n
  text o depth (i128 n) = signed_decimal n
  text o depth (u128 n) = decimal n
  text o depth (decimal_text t) = t
  text o depth (text_value t) = quoted t
  text o depth (bytes b) = bytes_text o.bytes_format b
  text o depth (raw t) = t
  text o depth (list items) = left_bracket ∷ items_text o depth true items
  text o depth (pairs members) = left_brace ∷ members_text o depth true members

  -- the items, of which the first may be the first of the list, and the closing bracket
  pub items_text : Options → ℕ → Bool → Trees → List ℕ
  items_text o depth first no_trees = line_at_end o depth first ++ right_bracket ∷ []
  items_text o depth first (tree t others) = separator first ++ new_line o (suc depth) ++ text o (suc depth) t
      ++ items_text o depth false others

  pub members_text : Options → ℕ → Bool → Pairs → List ℕ
  members_text o depth first no_pairs = line_at_end o depth first ++ right_brace ∷ []
  members_text o depth first (pair key value others) = separator first ++ new_line o (suc depth) ++ quoted key
      ++ colon_text o ++ text o (suc depth) value ++ members_text o depth false others
