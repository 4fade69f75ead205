use Rattle.std.proofs.Common.{◌≡◌, drop}
use Rattle.facet_json_tree.specs.Merge.{members_merged}
use Rattle.facet_json_tree.specs.Views.{pairs_view}
use Rattle.facet_json_tree.proofs.merge.+merge.Given as goal

abbrev pub invariant-members_merged-loop-member : goal.invariant-members_merged-loop-member
invariant-members_merged-loop-member l =
    members_merged (pairs_view l.fn.target.items) (pairs_view l.patch)
    ≡ members_merged (pairs_view l.members.items) (pairs_view (drop l.member-index l.patch))
