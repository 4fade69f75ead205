use Rattle.std.proofs.Common.{Some, ap, sym, ◌∙◌}
use Rattle.facet_json_tree.specs.Inner.PointerParts.{unescaped}
use Rattle.facet_json_tree.specs.Views.{tree_view}
use Rattle.facet_json_tree.proofs.Lookups.{last_member-at}
use Rattle.facet_json_tree.proofs.pointer_mut.member_named_mut.Goals as goal

pub returns : goal.returns
returns c =
    let told = c.in_ok-index.ensures in
    ap (λ p. Some (tree_view p.1)) c.index-members-index.is
    ∙ sym (last_member-at (unescaped c.args.token.now) c.args.members.now c.in_ok-index.index c.index-members-index.result told.within told.found)
