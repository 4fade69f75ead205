use Rattle.std.proofs.Common.{length, get_or, ap, sym, ◌∙◌, arith}
use Rattle.std.specs.Option.{unwrap_or}
use Rattle.facet_json_tree.specs.Lookup.{last_member}
use Rattle.facet_json_tree.specs.Views.{tree_view, pairs_view}
use Rattle.facet_json_tree.proofs.Edits.{stands_last}
use Rattle.facet_json_tree.proofs.Entries.{set_member-end, with_member-there, with_member-new}
use Rattle.facet_json_tree.proofs.Lookups.{last_member-at}
use Rattle.facet_json_tree.proofs.entry.index_or_insert.Goals as goal

pub returns-in-Some-clause-held : goal.returns-in-Some-clause-held
returns-in-Some-clause-held c =
    let members = c.args.members.now.items in
    let i = c.in-Some.index in
    let at = stands_last c.args.key.now c.deref.result.now members i c.deref.ensures.value c.in-Some.ensures.within c.in-Some.ensures.found in
    λ d. sym (ap (λ o. unwrap_or o (tree_view c.args.value)) (last_member-at c.args.key.now members i d at.within at.last))

pub returns-in_ok-insert_member-in-None-clause-held : goal.returns-in_ok-insert_member-in-None-clause-held
returns-in_ok-insert_member-in-None-clause-held c =
    let key = c.args.key.now in
    let value = tree_view c.args.value in
    let old = c.args.members.now.items in
    let new = c.insert_member.new.members.items in
    let none = ap (λ ms. last_member key (pairs_view ms)) (sym c.deref.ensures.value) ∙ c.in-None.ensures.found in
    let more = set_member-end key value old new none c.in_ok-insert_member-in-None.ensures.stored in
    let end = c.len-end.ensures ∙ sym c.deref.ensures.len ∙ ap length c.deref.ensures.value in
    λ d. ap (λ i. tree_view (get_or new i d).1) end ∙ more.value d ∙ sym (ap (λ o. unwrap_or o value) none)

pub returns-in_ok-insert_member-in-None-clause-within : goal.returns-in_ok-insert_member-in-None-clause-within
returns-in_ok-insert_member-in-None-clause-within c =
    let key = c.args.key.now in
    let old = c.args.members.now.items in
    let none = ap (λ ms. last_member key (pairs_view ms)) (sym c.deref.ensures.value) ∙ c.in-None.ensures.found in
    let more =
    set_member-end key (tree_view c.args.value) old c.insert_member.new.members.items none c.in_ok-insert_member-in-None.ensures.stored in
    let end = c.len-end.ensures ∙ sym c.deref.ensures.len ∙ ap length c.deref.ensures.value in
    omega (arith, more.long, end)

pub returns-in-Some-clause-stored : goal.returns-in-Some-clause-stored
returns-in-Some-clause-stored c =
    let members = c.args.members.now.items in
    let i = c.in-Some.index in
    let at = stands_last c.args.key.now c.deref.result.now members i c.deref.ensures.value c.in-Some.ensures.within c.in-Some.ensures.found in
    sym (with_member-there c.args.key.now (tree_view c.args.value) members i at.within at.last)

pub returns-in_ok-insert_member-in-None-clause-stored : goal.returns-in_ok-insert_member-in-None-clause-stored
returns-in_ok-insert_member-in-None-clause-stored c =
    let key = c.args.key.now in
    let none = ap (λ ms. last_member key (pairs_view ms)) (sym c.deref.ensures.value) ∙ c.in-None.ensures.found in
    c.in_ok-insert_member-in-None.ensures.stored ∙ sym (with_member-new key (tree_view c.args.value) (pairs_view c.args.members.now.items) none)
