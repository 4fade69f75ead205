-- What types of std read.
use Rattle.std.specs.Prelude.{◌≡◌, ℕ, ◌^◌, Bool, cond, nat_lt, List, length, Option, Some, None, ℤ, pos, negsuc}
use Rattle.std.specs.Option.{option_and_then}
use Rattle.std.specs.Fmt.{decimal, signed_decimal}
use Rattle.std.specs.Str.{bytes_eq, is_utf8}
use Rattle.std.specs.Str.Parse.{digits_value, signed_digits_value}
use Rattle.facet_format.specs.Span.{stop}
use Rattle.facet_format.specs.Event.{EventKind}
use Rattle.facet_format.specs.Event as event
use Rattle.facet_json_grammar.specs.Document.{IsWholeDocument}
use Rattle.facet_json_grammar.specs.Node.{Node, scalar, array, object}
use Rattle.facet_json_grammar.specs.RunLaws.{last_token_of}
use Rattle.facet_json_grammar.specs.UnreadLaws.{first_token}
use Rattle.facet_json_grammar.specs.Tree.{Tree, bool, i64, u64, text}
use Rattle.facet_json_grammar.specs.Meaning.{meaning}
use Rattle.facet_json_grammar.specs.SkipLaws.{bytes_between}
use Rattle.facet_json_core.specs.Told.{tree_of_scalar}

-- what a type reads that has its value from a scalar alone
abbrev pub leaf : {V : Type 0} → (Tree → Option V) → List ℕ → Node → Option V
leaf value buffer (scalar t) = option_and_then value (meaning buffer t)
leaf value buffer (array first last nodes) = None
leaf value buffer (object first last inside) = None

-- the same from the scalar's event
abbrev pub taken : {V : Type 0} → (Tree → Option V) → EventKind → Option V
taken value (event.scalar s) = option_and_then value (tree_of_scalar s)
taken value _ = None

abbrev pub bool_of : Tree → Option Bool
bool_of (bool b) = Some b
bool_of _ = None

-- ---- whole numbers

abbrev pub whole_of : Tree → Option ℤ
whole_of (u64 n) = Some (pos n)
whole_of (i64 n) = Some n
whole_of _ = None

-- the number, where it has no sign and so many bits hold it
abbrev pub unsigned_in : ℕ → ℤ → Option ℕ
unsigned_in bits (pos n) = cond (nat_lt n (2 ^ bits)) (Some n) None
unsigned_in bits (negsuc n) = None

-- the number, where so many bits beside the sign hold it
abbrev pub signed_in : ℕ → ℤ → Option ℤ
signed_in bits (pos n) = cond (nat_lt n (2 ^ bits)) (Some (pos n)) None
signed_in bits (negsuc n) = cond (nat_lt n (2 ^ bits)) (Some (negsuc n)) None

-- a number of a type without a sign, of so many bits
abbrev pub unsigned_of : ℕ → Tree → Option ℕ
unsigned_of bits t = option_and_then (unsigned_in bits) (whole_of t)

-- a number of a type with a sign, of so many bits beside it
abbrev pub signed_of : ℕ → Tree → Option ℤ
signed_of bits t = option_and_then (signed_in bits) (whole_of t)

-- ---- texts

abbrev pub text_of_tree : Tree → Option (List ℕ)
text_of_tree (text t) = Some t
text_of_tree _ = None

-- ---- whole numbers of 128 bits

-- the number that is written so, in decimal digits
abbrev pub unsigned_text : List ℕ → Option ℕ
unsigned_text t = let n = digits_value 10 t in cond (bytes_eq t (decimal n)) (unsigned_in 128 (pos n)) None

-- the same with a minus where it is negative
abbrev pub signed_text : List ℕ → Option ℤ
signed_text t = let z = signed_digits_value 10 t in cond (bytes_eq t (signed_decimal z)) (signed_in 127 z) None

-- a number past 64 bits is read as the text of its digits
abbrev pub u128_of : Tree → Option ℕ
u128_of (text t) = unsigned_text t
u128_of t = unsigned_of 128 t

abbrev pub i128_of : Tree → Option ℤ
i128_of (text t) = signed_text t
i128_of t = signed_of 127 t

-- ---- raw text

-- the bytes of a node, from its first token to its last one, where they are UTF-8
abbrev pub raw_of : List ℕ → Node → Option (List ℕ)
raw_of buffer node = let bytes = bytes_between buffer (first_token node) (last_token_of node) in cond (is_utf8 bytes) (Some bytes) None

-- The text is one document, with nothing around it.
pub record IsBareDocument (content : List ℕ) : Type 0 where
  pub root : Node
  pub value : Tree
  pub document : IsWholeDocument content root value
  pub starts : (first_token root).span.offset ≡ 0
  pub ends : stop (last_token_of root).span ≡ length content
