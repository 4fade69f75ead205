use Rattle.std.proofs.Common.{rules, ap, sym, ◌∙◌}
use Rattle.std.proofs.lemmas.Result.{IfOk-weaker}
use Rattle.facet_json_tree.specs.Lookup.{last_member, member}
use Rattle.facet_json_tree.specs.Views.{tree_view, pairs_view}
use Rattle.facet_json_tree.proofs.TreeViews.{tree_view-Pairs}
use Rattle.facet_json_tree.proofs.tree.Tree.insert.Goals as goal

pub returns-in-Pairs-clause-stored : goal.returns-in-Pairs-clause-stored
returns-in-Pairs-clause-stored c =
    let stored = c.insert_member.ensures.stored in
    search (rules, tree_view-Pairs) parts 4

pub returns-in-Pairs-clause-before : goal.returns-in-Pairs-clause-before
returns-in-Pairs-clause-before c =
    let key = c.args.key.now in
    let was = ap (member key) (ap tree_view c.in-Pairs.is ∙ tree_view-Pairs _) in
    IfOk-weaker c.insert_member.result _ _
    (λ had e. e ∙ ap (λ v. last_member key (pairs_view v.items)) c.in-Pairs.members-is ∙ sym was)
    c.insert_member.ensures.before
