-- How the values of a struct are read and written, field by field.
use Rattle.std.specs.Prelude.{ℕ, Bool, true, false, cond, ◌&&◌, List, [], ◌∷◌, Option}
use Rattle.std.specs.Char.{is_ascii}
use Rattle.std.specs.List.{list_all}
use Rattle.std.specs.Option.{IfSome}
use Rattle.std.specs.Str.{bytes_eq, is_utf8}
use Rattle.facet_json_grammar.specs.Tree.{pairs, Pairs, no_pairs, pair}
pub use Rattle.facet_json_core.specs.Meaning.Shapes.{Shape, ShapeLaws, shape, nullable}
use Rattle.facet_json_core.specs.Meaning.Optional.{optional_tree, OptionalReadable}
use Rattle.facet_json.specs.Fields.{Table, none, need, maybe, fields_of}

-- ---- a struct

-- Fields in their order: their names, how an object's members are read as their values, and as what members these are written.
pub record FieldList (V : Type 0) : Type 1 where
  pub names : List (List ℕ)
  pub table : Table V
  pub table_borrowed : Table V
  pub written : V → Pairs
  pub always : V → Type 0
  pub readable : V → Type 0

abbrev pub no_more : FieldList (Unit {0})
no_more = record { names = []; table = none; table_borrowed = none; written = λ v. no_pairs; always = λ v. Unit {0}; readable = λ v. Unit {0} }

-- a field that has to be there, and those after it
abbrev pub needs : {V W : Type 0} → List ℕ → Shape V → FieldList W → FieldList (V × W)
needs name s others = record {
  names = name ∷ others.names;
  table = need s.reading others.table;
  table_borrowed = need s.reading_borrowed others.table_borrowed;
  written = λ v. pair name (s.tree_of v.0) (others.written v.1);
  always = λ v. s.always v.0 × others.always v.1;
  readable = λ v. s.readable v.0 × others.readable v.1;
}

-- a field that may be missing or null, and those after it; it is written as null where it is none
abbrev pub may_have : {V W : Type 0} → List ℕ → Shape V → FieldList W → FieldList (Option V × W)
may_have name s others = record {
  names = name ∷ others.names;
  table = maybe s.reading others.table;
  table_borrowed = maybe s.reading_borrowed others.table_borrowed;
  written = λ v. pair name (optional_tree s.tree_of v.0) (others.written v.1);
  always = λ v. IfSome v.0 s.always × others.always v.1;
  readable = λ v. OptionalReadable s.tree_of s.readable v.0 × others.readable v.1;
}

-- A struct is an object of its fields.
abbrev pub struct_of : {V : Type 0} → FieldList V → Shape V
struct_of fields =
    shape (fields_of fields.table fields.names) (fields_of fields.table_borrowed fields.names) (λ v. pairs (fields.written v)) fields.always fields.readable

-- ---- names

-- The name is a text. ASCII is one, which computes; of another name it is shown with `unfolding is_utf8 chars encode_utf8`.
abbrev pub is_text : List ℕ → Bool
is_text name = cond (list_all is_ascii name) true (is_utf8 name)

-- none of the names is this one
abbrev pub lacks : List ℕ → List (List ℕ) → Bool
lacks key [] = true
lacks key (name ∷ names) = cond (bytes_eq key name) false (lacks key names)

-- Each name is a text, and none stands twice.
abbrev pub are_names : List (List ℕ) → Bool
are_names [] = true
are_names (name ∷ names) = is_text name && (lacks name names && are_names names)
