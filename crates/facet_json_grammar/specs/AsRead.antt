-- What a tree that was written reads as (RFC 8259, sections 2 to 7): the distinctions that JSON has no text for are gone.
use Rattle.std.specs.Prelude.{◌≡◌, ◌<◌, ◌^◌, ℕ, Bool, true, cond, nat_lt, List, [], ◌∷◌, ◌++◌, Some, ℤ, pos, negsuc, codes}
use Rattle.std.specs.List.{list_all}
use Rattle.std.specs.Char.{encode_utf8, IsScalar}
use Rattle.std.specs.Fmt.{decimal, signed_decimal}
use Rattle.std.specs.Str.{is_utf8}
use Rattle.facet_format.specs.Bytes.{is_space}
use Rattle.facet_format.specs.Number.{float}
use Rattle.facet_format.specs.NumberValue.{number}
use Rattle.facet_format.specs.NumberValue as numbers
use Rattle.facet_json_grammar.specs.Document.{IsWholeDocument}
use Rattle.facet_json_grammar.specs.Node.{Node}
use Rattle.facet_json_grammar.specs.Text.{BytesFormat, as_array, as_hex, hex, Options}
use Rattle.facet_json_grammar.specs.Tree.{Tree, null, unit, bool, char, i64, u64, i128, u128, bytes, raw, list, pairs, Trees, no_trees, tree, Pairs, no_pairs, pair}
use Rattle.facet_json_grammar.specs.Tree as trees

-- ---- what a tree reads as

-- a whole number: within 64 bits it stays one, else it is the text of its digits
abbrev pub whole_number : ℤ → Tree
whole_number (pos n) = cond (nat_lt n (2 ^ 64)) (u64 n) (trees.text (decimal n))
whole_number (negsuc n) = cond (nat_lt n (2 ^ 63)) (i64 (negsuc n)) (trees.text (signed_decimal (negsuc n)))

abbrev pub numbers_of : List ℕ → Trees
numbers_of [] = no_trees
numbers_of (b ∷ others) = tree (u64 b) (numbers_of others)

-- bytes: a list of numbers, or the text of their hexadecimal digits
abbrev pub bytes_as_read : BytesFormat → List ℕ → Tree
bytes_as_read as_array all = list (numbers_of all)
bytes_as_read (as_hex limit head tail) all = trees.text (codes "0x" ++ hex all limit head tail)

-- A tree that is written with bytes in this format reads as the second one.
mutual
  pub data ReadsAs (format : BytesFormat) : Tree → Tree → Type 0 where
    null_is_null : ReadsAs format null null
    unit_is_null : ReadsAs format unit null
    bool_is_itself : (b : Bool) → ReadsAs format (bool b) (bool b)
    char_is_text : (c : ℕ) → ReadsAs format (char c) (trees.text (encode_utf8 c))
    i64_is_whole : (n : ℤ) → ReadsAs format (i64 n) (whole_number n)
    u64_is_whole : (n : ℕ) → ReadsAs format (u64 n) (whole_number (pos n))
    i128_is_whole : (n : ℤ) → ReadsAs format (i128 n) (whole_number n)
    u128_is_whole : (n : ℕ) → ReadsAs format (u128 n) (whole_number (pos n))
    decimal_is_itself : (t : List ℕ) → ReadsAs format (trees.decimal t) (trees.decimal t)
    text_is_itself : (t : List ℕ) → ReadsAs format (trees.text t) (trees.text t)
    bytes_are_read : (b : List ℕ) → ReadsAs format (bytes b) (bytes_as_read format b)
    -- raw text reads as the document that it is
    raw_is_read : (t : List ℕ) (root : Node) (value : Tree) → IsWholeDocument t root value → ReadsAs format (raw t) value
    list_is_list : (items values : Trees) → ItemsReadAs format items values → ReadsAs format (list items) (list values)
    pairs_are_pairs : (members values : Pairs) → MembersReadAs format members values → ReadsAs format (pairs members) (pairs values)

  pub data ItemsReadAs (format : BytesFormat) : Trees → Trees → Type 0 where
    no_items : ItemsReadAs format no_trees no_trees
    one_item : (t value : Tree) (items values : Trees) → ReadsAs format t value → ItemsReadAs format items values →
        ItemsReadAs format (tree t items) (tree value values)

  pub data MembersReadAs (format : BytesFormat) : Pairs → Pairs → Type 0 where
    no_members : MembersReadAs format no_pairs no_pairs
    one_member : (key : List ℕ) (t value : Tree) (members values : Pairs) → ReadsAs format t value →
        MembersReadAs format members values → MembersReadAs format (pair key t members) (pair key value values)

-- ---- what it takes for that

-- within so many bits and a sign
abbrev pub FitsBits : ℕ → ℤ → Type 0
FitsBits bits (pos n) = n < 2 ^ bits
FitsBits bits (negsuc n) = n < 2 ^ bits

unfoldable mutual
  -- What the types of Rust see to: texts and keys are UTF-8, characters are scalar values, numbers are within their bits,
  -- and decimals are numbers.
  pub WellFormed : Tree → Type 0
  WellFormed null = Unit {0}
  WellFormed unit = Unit {0}
  WellFormed (bool b) = Unit {0}
  WellFormed (char c) = IsScalar c
  WellFormed (i64 n) = FitsBits 63 n
  WellFormed (u64 n) = n < 2 ^ 64
  WellFormed (i128 n) = FitsBits 127 n
  WellFormed (u128 n) = n < 2 ^ 128
  WellFormed (trees.decimal t) = number t float ≡ Some (numbers.decimal t)
  WellFormed (trees.text t) = is_utf8 t ≡ true
  WellFormed (bytes b) = list_all (λ x. nat_lt x 0x100) b ≡ true
  WellFormed (raw t) = Unit {0}
  WellFormed (list items) = ItemsWellFormed items
  WellFormed (pairs members) = MembersWellFormed members

  pub ItemsWellFormed : Trees → Type 0
  ItemsWellFormed no_trees = Unit {0}
  ItemsWellFormed (tree t items) = WellFormed t × ItemsWellFormed items

  pub MembersWellFormed : Pairs → Type 0
  MembersWellFormed no_pairs = Unit {0}
  MembersWellFormed (pair key t members) = (is_utf8 key ≡ true) × WellFormed t × MembersWellFormed members

unfoldable mutual
  -- All raw text in the tree is such.
  pub RawParts : (List ℕ → Type 0) → Tree → Type 0
  RawParts P (raw t) = P t
  RawParts P (list items) = RawItems P items
  RawParts P (pairs members) = RawMembers P members
  RawParts P null = Unit {0}
  RawParts P unit = Unit {0}
  RawParts P (bool b) = Unit {0}
  RawParts P (char c) = Unit {0}
  RawParts P (i64 n) = Unit {0}
  RawParts P (u64 n) = Unit {0}
  RawParts P (i128 n) = Unit {0}
  RawParts P (u128 n) = Unit {0}
  RawParts P (trees.decimal t) = Unit {0}
  RawParts P (trees.text t) = Unit {0}
  RawParts P (bytes b) = Unit {0}

  pub RawItems : (List ℕ → Type 0) → Trees → Type 0
  RawItems P no_trees = Unit {0}
  RawItems P (tree t items) = RawParts P t × RawItems P items

  pub RawMembers : (List ℕ → Type 0) → Pairs → Type 0
  RawMembers P no_pairs = Unit {0}
  RawMembers P (pair key t members) = RawParts P t × RawMembers P members

-- The text is a whole document, with white space alone around it.
abbrev pub IsDocumentText : List ℕ → Type 0
IsDocumentText content = (root : Node) × (value : Tree) × IsWholeDocument content root value

-- The indent is white space of JSON, or none.
abbrev pub IsBlankIndent : Options → Type 0
IsBlankIndent o = list_all is_space o.indent ≡ true
