-- How the values of each type are read and written that has the trait; `Option` is `nullable` of `Shapes`.
use Rattle.std.specs.Prelude.{◌≡◌, ℕ, ◌^◌, ◌<◌, ℤ, Bool, true, List, Option}
use Rattle.std.specs.List.{All}
use Rattle.std.specs.Str.{is_utf8}
use Rattle.facet_json_grammar.specs.Meaning.{tree_of}
use Rattle.facet_json_grammar.specs.Tree.{Tree}
use Rattle.facet_json_grammar.specs.Tree as tree
use Rattle.facet_json_grammar.specs.AsRead.{FitsBits, WellFormed}
use Rattle.facet_json_core.specs.Meaning.Borrowed.{borrowed_text, unread_text}
use Rattle.facet_json_core.specs.Meaning.Lists.{list_of, list_by}
use Rattle.facet_json_core.specs.Meaning.Maps.{Entries, map_of, tree_of_entries, IsMap, IsReadableMap}
use Rattle.facet_json_core.specs.Meaning.Readings.{leaf, bool_of, unsigned_of, signed_of, text_of_tree, u128_of, i128_of, raw_of, IsBareDocument}
use Rattle.facet_json_core.specs.Meaning.Trees.{IsReadableTree}
use Rattle.facet_json_core.specs.Meaning.Shapes.{Shape, shape}

-- a type that has its value from a scalar's tree, if anything is taken of it
abbrev pub scalar : {V : Type 0} → (Tree → Option V) → (V → Tree) → (V → Type 0) → Shape V
scalar takes tree_of always = shape (leaf takes) (leaf takes) tree_of always (λ v. Unit {0})

abbrev pub bool : Shape Bool
bool = scalar bool_of tree.bool (λ b. Unit {0})

-- ---- numbers

-- a whole number without a sign that so many bits hold
abbrev pub unsigned : ℕ → Shape ℕ
unsigned bits = scalar (unsigned_of bits) tree.u64 (λ n. n < 2 ^ bits)

-- a whole number that so many bits beside its sign hold
abbrev pub signed : ℕ → Shape ℤ
signed bits = scalar (signed_of bits) tree.i64 (λ n. FitsBits bits n)

abbrev pub u8 : Shape ℕ
u8 = unsigned 8

abbrev pub u16 : Shape ℕ
u16 = unsigned 16

abbrev pub u32 : Shape ℕ
u32 = unsigned 32

-- also `usize`
abbrev pub u64 : Shape ℕ
u64 = unsigned 64

abbrev pub u128 : Shape ℕ
u128 = scalar u128_of tree.u128 (λ n. n < 2 ^ 128)

abbrev pub i8 : Shape ℤ
i8 = signed 7

abbrev pub i16 : Shape ℤ
i16 = signed 15

abbrev pub i32 : Shape ℤ
i32 = signed 31

-- also `isize`
abbrev pub i64 : Shape ℤ
i64 = signed 63

abbrev pub i128 : Shape ℤ
i128 = scalar i128_of tree.i128 (λ n. FitsBits 127 n)

-- ---- texts

-- `String`
abbrev pub text : Shape (List ℕ)
text = scalar text_of_tree tree.text (λ t. is_utf8 t ≡ true)

-- `&str`, which is read only where it may be borrowed
abbrev pub borrowed : Shape (List ℕ)
borrowed = shape unread_text borrowed_text tree.text (λ t. Unit {0}) (λ t. ⊥)

-- `RawJson`
abbrev pub raw : Shape (List ℕ)
raw = shape raw_of raw_of tree.raw (λ t. is_utf8 t ≡ true) IsBareDocument

-- ---- containers

-- `Vec`
abbrev pub list : {V : Type 0} → Shape V → Shape (List V)
list s = shape (list_of s.reading) (list_of s.reading_borrowed) (list_by s.tree_of) (λ vs. All s.always vs) (λ vs. All s.readable vs)

-- `BTreeMap` from `String`
abbrev pub entries : {V : Type 0} → Shape V → Shape (Entries V)
entries s = shape (map_of s.reading) (map_of s.reading_borrowed) (tree_of_entries s.tree_of) (IsMap s.always) (IsReadableMap s.readable)

-- ---- any value

-- `Tree`
abbrev pub any : Shape Tree
any = shape tree_of tree_of (λ t. t) WellFormed IsReadableTree
