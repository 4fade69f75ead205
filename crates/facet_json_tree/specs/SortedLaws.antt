-- What is known of a value once its members are in order.
use Rattle.std.specs.Prelude.{◌≡◌, ℕ, false, List, ⊤, option_map}
use Rattle.facet_json_grammar.specs.Tree.{Tree, Pairs, no_pairs, pair}
use Rattle.facet_json_tree.specs.Lookup.{member}
use Rattle.facet_json_tree.specs.Sorted.{is_before, in_order, sorted}

-- No name is before the one that stands before it.
abbrev pub NamesAscend : Pairs → Type 0
NamesAscend no_pairs = ⊤
NamesAscend (pair name value no_pairs) = ⊤
NamesAscend (pair name value (pair next other others)) = (is_before next name ≡ false) × NamesAscend (pair next other others)

-- Members in order ascend by their names,
abbrev pub OrderAscends : Type 0
OrderAscends = (members : Pairs) → NamesAscend (in_order members)

-- and each name finds what it found before, itself sorted.
abbrev pub SortedIsFound : Type 0
SortedIsFound = (key : List ℕ) (t : Tree) → member key (sorted t) ≡ option_map sorted (member key t)
