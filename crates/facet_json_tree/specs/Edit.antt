-- Changing a value: the items of a list (RFC 8259, section 5), the members of an object (section 4).
use Rattle.std.specs.Prelude.{ℕ, zero, suc, List, Option, Some, None, ◌&&◌, is_none, if◌then◌else◌}
use Rattle.facet_json_tree.specs.Lookup.{last_member}
use Rattle.facet_json_tree.specs.Same.{same_bytes}
use Rattle.facet_json_grammar.specs.Tree.{Tree, list, pairs, Trees, no_trees, tree, Pairs, no_pairs, pair}

-- ---- items

-- the items, and one more at the end
abbrev pub push_item : Tree → Trees → Trees
push_item item no_trees = tree item no_trees
push_item item (tree first others) = tree first (push_item item others)

-- what a value becomes by it; only a list has items
abbrev pub pushed : Tree → Tree → Option Tree
pushed item (list items) = Some (list (push_item item items))
pushed item _ = None

-- the items without the one at this index
abbrev pub drop_item : ℕ → Trees → Trees
drop_item i no_trees = no_trees
drop_item zero (tree first others) = others
drop_item (suc i) (tree first others) = tree first (drop_item i others)

-- what a value becomes by it
abbrev pub item_removed : ℕ → Tree → Tree
item_removed i (list items) = list (drop_item i items)
item_removed i t = t

-- ---- members

-- the members, where the last of this name has this value now; where none has the name, one more stands at the end
abbrev pub set_member : List ℕ → Tree → Pairs → Pairs
set_member key value no_pairs = pair key value no_pairs
set_member key value (pair name old others) =
    if same_bytes name key && is_none (last_member key others) then pair name value others else pair name old (set_member key value others)

-- what a value becomes by it; only an object has members
abbrev pub inserted : List ℕ → Tree → Tree → Option Tree
inserted key value (pairs members) = Some (pairs (set_member key value members))
inserted key value _ = None

-- the members without those of this name
abbrev pub drop_members : List ℕ → Pairs → Pairs
drop_members key no_pairs = no_pairs
drop_members key (pair name value others) =
    if same_bytes name key then drop_members key others else pair name value (drop_members key others)

-- what a value becomes by it
abbrev pub removed : List ℕ → Tree → Tree
removed key (pairs members) = pairs (drop_members key members)
removed key t = t
