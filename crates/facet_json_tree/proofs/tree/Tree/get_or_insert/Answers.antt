use Rattle.std.proofs.Common.{ap, sym, ◌∙◌}
use Rattle.std.proofs.lemmas.Result.{IfOk-weaker}
use Rattle.std.specs.Option.{unwrap_or}
use Rattle.facet_json_tree.specs.Lookup.{last_member, member}
use Rattle.facet_json_tree.specs.Views.{tree_view, pairs_view}
use Rattle.facet_json_tree.proofs.TreeViews.{tree_view-Pairs}
use Rattle.facet_json_tree.proofs.tree.Tree.get_or_insert.Goals as goal

pub returns-in-Pairs-clause-lent : goal.returns-in-Pairs-clause-lent
returns-in-Pairs-clause-lent c =
    let key = c.args.key.now in
    let value = tree_view c.args.value in
    let was = ap (member key) (ap tree_view c.in-Pairs.is ∙ tree_view-Pairs _) in
    IfOk-weaker c.member_or_insert.result _ _
    (λ t e. e ∙ ap (λ v. unwrap_or (last_member key (pairs_view v.items)) value) c.in-Pairs.members-is ∙ sym (ap (λ o. unwrap_or o value) was))
    c.member_or_insert.ensures.lent
