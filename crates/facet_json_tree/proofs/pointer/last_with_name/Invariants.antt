use Rattle.std.proofs.Common.{◌≡◌, None, drop}
use Rattle.facet_json_tree.specs.Inner.PointerParts.{unescaped}
use Rattle.facet_json_tree.specs.Lookup.{last_member}
use Rattle.facet_json_tree.specs.Views.{pairs_view}
use Rattle.facet_json_tree.proofs.pointer.last_with_name.Given as goal

abbrev pub invariant-loop-index : goal.invariant-loop-index
invariant-loop-index l = last_member (unescaped l.token) (pairs_view (drop l.index l.members)) ≡ None
