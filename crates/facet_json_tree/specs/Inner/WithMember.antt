-- Members among which one has a name.
use Rattle.std.specs.Prelude.{ℕ, List, is_none, if◌then◌else◌}
use Rattle.facet_json_grammar.specs.Tree.{Tree, Pairs}
use Rattle.facet_json_tree.specs.Edit.{set_member}
use Rattle.facet_json_tree.specs.Lookup.{last_member}

-- the members; where none has the name, one more stands at the end
abbrev pub with_member : List ℕ → Tree → Pairs → Pairs
with_member key value members = if is_none (last_member key members) then set_member key value members else members
