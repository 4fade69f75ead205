-- What a map from texts reads, and as what it is written.
use Rattle.std.specs.Prelude.{◌≡◌, ℕ, true, List, [], ◌∷◌, map, Option, Some, None, string_bytes}
use Rattle.std.specs.BTreeMap.{insert_entry}
use Rattle.std.specs.Cmp.Lexicographic.{slice_cmp}
use Rattle.std.specs.List.{All}
use Rattle.std.specs.List.Sorted.{IsStrictlySortedBy}
use Rattle.std.specs.Map.{keys_of}
use Rattle.std.specs.Option.{option_and_then}
use Rattle.std.specs.declared.cmp.Ordering.{Ordering}
use Rattle.std.specs.Ordering.{nat_cmp}
use Rattle.std.specs.Str.{is_utf8}
use Rattle.std.specs.declared.string.String.{String}
use Rattle.facet_json_grammar.specs.Meaning.{text_in_tree, meaning}
use Rattle.facet_json_grammar.specs.Node.{Node, scalar, array, object, Members, no_members, member}
use Rattle.facet_json_grammar.specs.Tree.{Tree, pairs, Pairs, no_pairs, pair}

-- what is seen of a map: its keys as bytes, each with what is seen of its value
abbrev pub Entries : Type 0 → Type 0
Entries V = List (List ℕ × V)

-- the same of a map's own entries
abbrev pub seen_entries : {Z T V : Type 0} → (T → V) → List (String Z × T) → Entries V
seen_entries view entries = map (λ e. (string_bytes e.0, view e.1)) entries

-- keys in the order of their bytes
abbrev pub by_bytes : List ℕ → List ℕ → Ordering
by_bytes = slice_cmp nat_cmp

-- ---- what is read

-- the entries, after a key with its value: where the key is there already, its value is replaced
abbrev pub with_entry : {V : Type 0} → Entries V → List ℕ → V → Entries V
with_entry entries key value = insert_entry by_bytes entries key value

-- the entries, after these members in their order
abbrev pub with_members : {V : Type 0} → (List ℕ → Node → Option V) → List ℕ → Members → Entries V → Option (Entries V)
with_members reading buffer no_members entries = Some entries
with_members reading buffer (member key mark node members) entries =
    option_and_then (λ k. option_and_then (λ v. with_members reading buffer members (with_entry entries k v)) (reading buffer node)) (text_in_tree (meaning buffer key))

-- An object is read as the entries of its members, of which the last one of a key counts.
abbrev pub map_of : {V : Type 0} → (List ℕ → Node → Option V) → List ℕ → Node → Option (Entries V)
map_of reading buffer (scalar t) = None
map_of reading buffer (array first last nodes) = None
map_of reading buffer (object first last members) = with_members reading buffer members []

-- ---- what is written

abbrev pub pairs_of_entries : {V : Type 0} → (V → Tree) → Entries V → Pairs
pairs_of_entries tree [] = no_pairs
pairs_of_entries tree (e ∷ entries) = pair e.0 (tree e.1) (pairs_of_entries tree entries)

-- A map is written as an object of its entries.
abbrev pub tree_of_entries : {V : Type 0} → (V → Tree) → Entries V → Tree
tree_of_entries tree entries = pairs (pairs_of_entries tree entries)

-- What every map has: its keys ascend and are texts, and each value has what every one of its type has.
pub record IsMap {V : Type 0} (always : V → Type 0) (entries : Entries V) : Type 0 where
  pub ascend : IsStrictlySortedBy by_bytes (keys_of entries)
  pub texts : All (λ e. is_utf8 e.0 ≡ true) entries
  pub values : All (λ e. always e.1) entries

-- The values come back from their text.
abbrev pub IsReadableMap : {V : Type 0} → (V → Type 0) → Entries V → Type 0
IsReadableMap readable entries = All (λ e. readable e.1) entries
