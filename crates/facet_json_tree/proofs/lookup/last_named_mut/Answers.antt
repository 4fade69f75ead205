use Rattle.std.proofs.Common.{Some, sym, ap, ◌∙◌}
use Rattle.facet_json_tree.specs.Views.{tree_view}
use Rattle.facet_json_tree.proofs.Lookups.{last_member-at}
use Rattle.facet_json_tree.proofs.lookup.last_named_mut.Goals as goal

pub returns : goal.returns
returns c =
    let told = c.in_ok-index.ensures in
    let member = c.index-members-index.result in
    let found = last_member-at c.args.key.now c.args.members.now c.in_ok-index.index member told.within told.found in
    ap (λ p. Some (tree_view p.1)) c.index-members-index.is ∙ sym found
