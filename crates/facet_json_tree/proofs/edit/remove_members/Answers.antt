use Rattle.std.proofs.Common.{Some, ap, sym, ◌∙◌, rules}
use Rattle.std.proofs.lemmas.Fn.{filter_same}
use Rattle.facet_json_tree.specs.Edit.{drop_members}
use Rattle.facet_json_tree.specs.Lookup.{last_member}
use Rattle.facet_json_tree.specs.Views.{tree_view, pairs_view}
use Rattle.facet_json_tree.proofs.Edits.{drop_members-none, drop_members-remove, drop_members-filter, has_other_name, stands_last}
use Rattle.facet_json_tree.proofs.Lookups.{last_member-at}
use Rattle.facet_json_tree.proofs.edit.remove_members.Goals as goal

pub returns-in_err-index-clause-left : goal.returns-in_err-index-clause-left
returns-in_err-index-clause-left c =
    let key = c.args.key.now in
    let none = ap (λ ms. last_member key (pairs_view ms)) (sym c.deref.ensures.value) ∙ c.in_err-index.ensures.found in
    sym (drop_members-none key (pairs_view c.args.members.now.items) none)

pub returns-clause-found : goal.returns-clause-found
returns-clause-found c =
    let members = c.args.members.now.items in
    let told = c.in_ok-index.ensures in
    let at = stands_last c.args.key.now c.deref.result.now members c.in_ok-index.index c.deref.ensures.value told.within told.found in
    ap (λ n. Some (tree_view n.1)) c.remove-value.ensures.value
    ∙ sym (last_member-at c.args.key.now members c.in_ok-index.index c.remove-value.result at.within at.last)

pub returns-clause-left : goal.returns-clause-left
returns-clause-left c =
    let key = c.args.key.now in
    let i = c.in_ok-index.index in
    let m = c.remove-value.result in
    let members = c.args.members.now.items in
    let told = c.in_ok-index.ensures in
    let at = stands_last key c.deref.result.now members i c.deref.ensures.value told.within told.found in
    ap pairs_view (filter_same _ (has_other_name key) _ (λ n b f' k. search rules) _ _ c.retain.ensures.filtered)
    ∙ drop_members-filter key c.remove-value.new.self.items ∙ ap (λ ms. drop_members key (pairs_view ms)) c.remove-value.ensures.items
    ∙ drop_members-remove key members i m at.within (at.last.named m)
