use Rattle.std.proofs.Common.{◌≡◌, ◌+◌, false, drop, ap, sym, ◌∙◌, arith}
use Rattle.std.proofs.lemmas.List.{drop_all}
use Rattle.facet_json_grammar.specs.Tree.{pairs}
use Rattle.facet_json_tree.specs.Content.{is_null}
use Rattle.facet_json_tree.specs.Edit.{set_member}
use Rattle.facet_json_tree.specs.Merge.{merged, member_merged, members_merged, members_within}
use Rattle.facet_json_tree.specs.Views.{tree_view, pairs_view}
use Rattle.facet_json_tree.proofs.Merges.{set_member-twice}
use Rattle.facet_json_tree.proofs.TreeViews.{tree_view-Pairs, pairs_view-drop}
use Rattle.facet_json_tree.proofs.merge.+merge.Goals as goal

pub merged-returns-in_ok-members_merged-in-Pairs : goal.merged-returns-in_ok-members_merged-in-Pairs
merged-returns-in_ok-members_merged-in-Pairs t c =
    let target = members_within (tree_view c.args.target) in
    let is = c.in_ok-members_merged-in-Pairs.ensures ∙ ap (λ ts. members_merged ts (pairs_view c.deref.result.now)) c.members_of.ensures
    ∙ ap (λ ms. members_merged target (pairs_view ms)) c.deref.ensures.value in
    tree_view-Pairs _ ∙ ap pairs is ∙ sym (ap (merged (tree_view c.args.target)) (ap tree_view c.in-Pairs.is ∙ tree_view-Pairs _))

pub members_merged-loop-member-preserved : goal.members_merged-loop-member-preserved
members_merged-loop-member-preserved t c =
    let l = c.loop-member in
    let p = c.member-item.result in
    let others = pairs_view (drop (l.member-index + 1) c.args.patch.now) in
    let next = pairs_view-drop c.args.patch.now l.member-index p (omega arith) c.member-item.is in
    let put = c.in_ok-merge_member.ensures ∙ ap (λ n. member_merged n (tree_view p.1) (pairs_view l.members.items)) c.as_str.ensures.value in
    l.invariant ∙ ap (members_merged (pairs_view l.members.items)) next ∙ ap (λ ms. members_merged ms others) (sym put)

pub members_merged-returns : goal.members_merged-returns
members_merged-returns t c =
    let l = c.loop-member in
    let done = drop_all l.member-index c.args.patch.now c.loop-member-test.false in
    sym (l.invariant ∙ ap (λ ms. members_merged (pairs_view l.members.items) (pairs_view ms)) done)

pub merge_member-returns : goal.merge_member-returns
merge_member-returns t c =
    let name = c.args.name.now in
    let old = pairs_view c.args.members.now.items in
    let value = tree_view c.in_ok-value.value in
    let none : is_null (tree_view c.args.patch.now) ≡ false = sym c.if-is_null.ensures in
    let patched = c.in_ok-value.ensures ∙ ap (λ b. merged b (tree_view c.args.patch.now)) c.in_ok-before.ensures.before in
    rw none (c.in_ok-store.ensures.stored ∙ ap (set_member name value) c.in_ok-before.ensures.stored
    ∙ set_member-twice name value _ old ∙ ap (λ v. set_member name v old) patched)
