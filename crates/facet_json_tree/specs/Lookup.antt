-- Looking into a value: members by their names (RFC 8259, section 4), items by their index (section 5).
use Rattle.std.specs.Prelude.{ℕ, zero, suc, List, Option, Some, None, if◌then◌else◌}
use Rattle.std.specs.Option.{option_or}
use Rattle.facet_json_tree.specs.Same.{same_bytes}
use Rattle.facet_json_grammar.specs.Tree.{Tree, list, pairs, Trees, no_trees, tree, Pairs, no_pairs, pair}

-- members by their names: of those with one name the last counts
abbrev pub last_member : List ℕ → Pairs → Option Tree
last_member key no_pairs = None
last_member key (pair name value others) = option_or (last_member key others) (if same_bytes name key then Some value else None)

-- the value of an object's last member with this name; other values have no members
abbrev pub member : List ℕ → Tree → Option Tree
member key (pairs members) = last_member key members
member key _ = None

abbrev pub item_at : ℕ → Trees → Option Tree
item_at i no_trees = None
item_at zero (tree t others) = Some t
item_at (suc i) (tree t others) = item_at i others

-- the item of a list at this index, the first at 0; other values have no items
abbrev pub item : ℕ → Tree → Option Tree
item i (list items) = item_at i items
item i _ = None
