use Rattle.std.proofs.Common.{◌≡◌, None, drop}
use Rattle.facet_json_tree.specs.Lookup.{last_member}
use Rattle.facet_json_tree.specs.Views.{pairs_view}
use Rattle.facet_json_tree.proofs.lookup.index_of_last.Given as goal

abbrev pub invariant-loop-index : goal.invariant-loop-index
invariant-loop-index l = last_member l.key (pairs_view (drop l.index l.members)) ≡ None
