-- Where the last member with a name stands.
use Rattle.std.specs.Prelude.{◌≡◌, ℕ, ◌+◌, List, drop, None, string_bytes}
use Rattle.std.specs.List.{HoldsAt}
use Rattle.std.specs.declared.string.String.{String}
use Rattle.std.specs.declared.alloc.Global.{Global}
use Rattle.facet_json_tree.specs.Lookup.{last_member}
use Rattle.facet_json_tree.specs.Views.{pairs_view}
use Rattle.facet_json_tree.specs.declared.tree.Tree.{Tree}

-- the member at this index has the name, and none after it has
pub record IsLastNamed (key : List ℕ) (members : List (String Global × Tree)) (i : ℕ) : Type 0 where
  pub named : HoldsAt (λ m. string_bytes m.0 ≡ key) members i
  pub last : last_member key (pairs_view (drop (i + 1) members)) ≡ None
