use Rattle.std.proofs.Common.{Some, ap, sym, ◌∙◌}
use Rattle.std.specs.Prelude.{slice_set}
use Rattle.facet_json_tree.specs.Views.{tree_view, pairs_view}
use Rattle.facet_json_tree.proofs.Edits.{set_member-last, stands_last}
use Rattle.facet_json_tree.proofs.Lookups.{last_member-at}
use Rattle.facet_json_tree.proofs.edit.insert_member.Goals as goal

pub returns-in-Some-clause-stored : goal.returns-in-Some-clause-stored
returns-in-Some-clause-stored c =
    let members = c.args.members.now.items in
    let at = stands_last c.args.key.now c.deref.result.now members c.in-Some.index c.deref.ensures.value c.in-Some.ensures.within c.in-Some.ensures.found in
    ap (λ w. pairs_view (slice_set members c.in-Some.index (c.index_mut-member.result.now.0, w))) c.replace.ensures.after
    ∙ set_member-last c.args.key.now members c.in-Some.index c.index_mut-member.result.now c.args.value at.within c.index_mut-member.ensures.value at.last

pub returns-in-Some-clause-before : goal.returns-in-Some-clause-before
returns-in-Some-clause-before c =
    let members = c.args.members.now.items in
    let at = stands_last c.args.key.now c.deref.result.now members c.in-Some.index c.deref.ensures.value c.in-Some.ensures.within c.in-Some.ensures.found in
    ap (λ w. Some (tree_view w)) (c.replace.ensures.value ∙ ap (λ n. n.1) c.index_mut-member.ensures.value)
    ∙ sym (last_member-at c.args.key.now members c.in-Some.index c.index_mut-member.result.now at.within at.last)
