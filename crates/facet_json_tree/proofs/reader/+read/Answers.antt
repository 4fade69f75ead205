use Rattle.std.proofs.Common.{◌∙◌, ap, refl, rules}
use Rattle.std.proofs.lemmas.List.{map-append}
use Rattle.std.proofs.lemmas.Option.{MatchOption-at_none, MatchOption-at_some}
use Rattle.std.proofs.lemmas.Result.{err_from_is_err_and}
use Rattle.facet_json_core.proofs.Meaning.Keeping.{keeps-then}
use Rattle.facet_json_tree.specs.Views.{tree_view}
use Rattle.facet_json_tree.proofs.TreeViews.{tree_view-List, tree_view-Pairs, trees_view-none, pairs_view-none}
use Rattle.facet_json_tree.proofs.ReadingValues.{read-at, went-behind}
use Rattle.facet_json_tree.proofs.ItemsRead.{items-closed, item-passed}
use Rattle.facet_json_tree.proofs.MembersRead.{pairs_before-none, members-closed, member-passed}
use Rattle.facet_json_tree.proofs.MovingOn.{leads-past, leads-behind, keeps-none, keeps-behind}
use Rattle.facet_json_tree.proofs.ReadingWithin.{within-same, within-at, item-within, items-within, member-within, members-within, list-leveled, object-leveled, list-unfilled, object-unfilled}
use Rattle.facet_json_tree.proofs.BeyondEvents.{item-leveled, member-leveled, items-leveled, members-leveled}
use Rattle.facet_json_tree.proofs.ValuesBegin.{begun-no_end, list-filled, object-filled}
use Rattle.facet_json_core.specs.Refusing.{without_memory}
use Rattle.facet_json_core.proofs.Meaning.Refusals.{keeps-there}
use Rattle.facet_json_core.proofs.Refusing.{tells-later}
use Rattle.facet_json_tree.proofs.ValuesPassed.{item-inside, member-inside}
use Rattle.facet_json_tree.proofs.reader.+read.Goals as goal

-- ---- values

pub finish-returns-in_ok-push_items-in-List-clause-read : goal.finish-returns-in_ok-push_items-in-List-clause-read
finish-returns-in_ok-push_items-in-List-clause-read t c =
    let seen = ap tree_view c.in-List.is ∙ tree_view-List _ in
    rw (seen, tree_view-List c.push_items.new.items)
    (list-filled _ _ _ _ _ (λ e. c.in_ok-push_items-in-List.ensures.read (trees_view-none _ e)))

pub finish-returns-in_err-push_items-in-List-clause-refused : goal.finish-returns-in_err-push_items-in-List-clause-refused
finish-returns-in_err-push_items-in-List-clause-refused t c =
    let seen = ap tree_view c.in-List.is ∙ tree_view-List _ in
    let p = err_from_is_err_and c.from_residual.result c.from_residual.ensures.1 in
    rw (p.1, p.2, seen) (list-unfilled c.args.depth _ _ _ _ (λ e. rw c.inner.ensures at c.in_err-push_items-in-List.ensures.refused (trees_view-none _ e)))

pub finish-returns-in_ok-push_members-in-Pairs-clause-read : goal.finish-returns-in_ok-push_members-in-Pairs-clause-read
finish-returns-in_ok-push_members-in-Pairs-clause-read t c =
    let seen = ap tree_view c.in-Pairs.is ∙ tree_view-Pairs _ in
    rw (seen, tree_view-Pairs c.push_members.new.members)
    (object-filled _ _ _ _ _ (λ e. c.in_ok-push_members-in-Pairs.ensures.read (pairs_view-none _ e)))

pub finish-returns-in_err-push_members-in-Pairs-clause-refused : goal.finish-returns-in_err-push_members-in-Pairs-clause-refused
finish-returns-in_err-push_members-in-Pairs-clause-refused t c =
    let seen = ap tree_view c.in-Pairs.is ∙ tree_view-Pairs _ in
    let p = err_from_is_err_and c.from_residual-in_err-push_members-in-Pairs.result c.from_residual-in_err-push_members-in-Pairs.ensures.1 in
    rw (p.1, p.2, seen) (object-unfilled c.args.depth _ _ _ _ (λ e. rw c.inner-in-Pairs.ensures at c.in_err-push_members-in-Pairs.ensures.refused (pairs_view-none _ e)))

pub finish-returns-in_ok-push_items-in-List-clause-level : goal.finish-returns-in_ok-push_items-in-List-clause-level
finish-returns-in_ok-push_items-in-List-clause-level t c =
    let seen = ap tree_view c.in-List.is ∙ tree_view-List _ in
    rw seen (list-leveled c.args.depth _ _ _ (rw c.inner.ensures at c.in_ok-push_items-in-List.ensures.level))

pub finish-returns-in_ok-push_members-in-Pairs-clause-level : goal.finish-returns-in_ok-push_members-in-Pairs-clause-level
finish-returns-in_ok-push_members-in-Pairs-clause-level t c =
    let seen = ap tree_view c.in-Pairs.is ∙ tree_view-Pairs _ in
    rw seen (object-leveled c.args.depth _ _ _ (rw c.inner-in-Pairs.ensures at c.in_ok-push_members-in-Pairs.ensures.level))

pub finish-returns-in_default-clause-keeps : goal.finish-returns-in_default-clause-keeps
finish-returns-in_default-clause-keeps t c = keeps-none

pub finish-returns-in_ok-push_items-in-List-clause-passes : goal.finish-returns-in_ok-push_items-in-List-clause-passes
finish-returns-in_ok-push_items-in-List-clause-passes t c =
    rw (ap tree_view c.in-List.is ∙ tree_view-List _) c.in_ok-push_items-in-List.ensures.passes

pub finish-returns-in_ok-push_members-in-Pairs-clause-passes : goal.finish-returns-in_ok-push_members-in-Pairs-clause-passes
finish-returns-in_ok-push_members-in-Pairs-clause-passes t c =
    rw (ap tree_view c.in-Pairs.is ∙ tree_view-Pairs _) c.in_ok-push_members-in-Pairs.ensures.passes

-- ---- items

pub push_items-returns-clause-passes : goal.push_items-returns-clause-passes
push_items-returns-clause-passes t c =
    let last = MatchOption-at_none _ _ c.in_default.is c.in_ok-item.ensures.begun in
    λ start inside. last.by_kind start (c.loop-item.invariant.inside start inside)

pub push_items-returns-clause-read : goal.push_items-returns-clause-read
push_items-returns-clause-read t c =
    let last = MatchOption-at_none _ _ c.in_default.is c.in_ok-item.ensures.begun in
    λ e. items-closed _ _ _ (c.loop-item.invariant.passed e) _ _ last.comes last.ends

pub push_items-returns-clause-leads : goal.push_items-returns-clause-leads
push_items-returns-clause-leads t c = leads-past c.loop-item.invariant.leads c.in_ok-item.ensures.moves

pub push_items-returns-in_err-finish-clause-refused : goal.push_items-returns-in_err-finish-clause-refused
push_items-returns-in_err-finish-clause-refused t c =
    let i = c.loop-item.invariant in
    let first = MatchOption-at_some _ _ _ c.in-Some.is c.in_ok-item.ensures.begun in
    let p = err_from_is_err_and c.from_residual-in_err-finish.result c.from_residual-in_err-finish.ensures.1 in
    rw (p.1, p.2) (λ e. item-within c.args.depth _ _ _ (i.passed e) i.level _ _ _ _ first.comes (begun-no_end first.begun)
    (within-same (c.begin_item.ensures.keeps.input.buffer ∙ i.keeps.input.buffer) (c.in_err-finish.ensures.refused first.passed first.begun)))

pub push_items-returns-in_err-item-clause-refused : goal.push_items-returns-in_err-item-clause-refused
push_items-returns-in_err-item-clause-refused t c =
    let i = c.loop-item.invariant in
    let p = err_from_is_err_and c.from_residual.result c.from_residual.ensures.1 in
    rw (p.1, p.2) (λ e. items-within _ _ _ _ (i.passed e) i.level _ _ (within-same i.keeps.input.buffer c.in_err-item.ensures.refused))

pub push_items-loop-item-preserved : goal.push_items-loop-item-preserved
push_items-loop-item-preserved t c =
    let i = c.loop-item.invariant in
    let first = MatchOption-at_some _ _ _ c.in-Some.is c.in_ok-item.ensures.begun in
    record {
      keeps = keeps-behind i.keeps c.begin_item.ensures.keeps c.finish.ensures.keeps;
      leads = leads-behind i.leads c.in_ok-item.ensures.moves c.in_ok-finish.ensures.leads;
      went = went-behind _ _ _ _ i.went c.in_ok-item.ensures.shorter c.in_ok-finish.ensures.went;
      inside = λ start inside. item-inside c.args.depth start c.loop-item.parser c.begin_item.new.parser c.finish.new.parser _ (i.inside start inside) first c.begin_item.ensures.keeps.input c.in_ok-finish.ensures.passes c.finish.ensures.keeps.input;
      level = item-leveled i.level first.comes (c.in_ok-finish.ensures.level first.passed first.begun);
      passed = λ e.
          rw (c.in_ok-append.ensures, map-append)
          (item-passed _ _ _ (i.passed e) _ _ first.comes _ _ (begun-no_end first.begun) (c.in_ok-finish.ensures.read first.passed first.begun));
    }

pub push_items-returns-clause-level : goal.push_items-returns-clause-level
push_items-returns-clause-level t c =
    let last = MatchOption-at_none _ _ c.in_default.is c.in_ok-item.ensures.begun in
    items-leveled c.loop-item.invariant.level last.comes last.ends

pub push_items-loop-item-init : goal.push_items-loop-item-init
push_items-loop-item-init t c = record {
  keeps = keeps-none;
  leads = search rules;
  went = search rules;
  inside = λ start inside. inside;
  level = search rules;
  passed = search rules;
}

pub push_items-returns-in_err-item-clause-keeps : goal.push_items-returns-in_err-item-clause-keeps
push_items-returns-in_err-item-clause-keeps t c = keeps-then _ _ _ c.loop-item.invariant.keeps c.begin_item.ensures.keeps

pub push_items-returns-in_err-finish-clause-keeps : goal.push_items-returns-in_err-finish-clause-keeps
push_items-returns-in_err-finish-clause-keeps t c =
    keeps-behind c.loop-item.invariant.keeps c.begin_item.ensures.keeps c.finish.ensures.keeps

pub push_items-returns-in_err-append-clause-keeps : goal.push_items-returns-in_err-append-clause-keeps
push_items-returns-in_err-append-clause-keeps t c =
    keeps-behind c.loop-item.invariant.keeps c.begin_item.ensures.keeps c.finish.ensures.keeps

pub push_items-returns-clause-keeps : goal.push_items-returns-clause-keeps
push_items-returns-clause-keeps t c = keeps-then _ _ _ c.loop-item.invariant.keeps c.begin_item.ensures.keeps

-- ---- members

pub push_members-returns-clause-passes : goal.push_members-returns-clause-passes
push_members-returns-clause-passes t c =
    let last = MatchOption-at_none _ _ c.in_default.is c.in_ok-key.ensures.begun in
    λ start inside. last.by_kind start (c.loop-key.invariant.inside start inside)

pub push_members-returns-clause-read : goal.push_members-returns-clause-read
push_members-returns-clause-read t c =
    let last = MatchOption-at_none _ _ c.in_default.is c.in_ok-key.ensures.begun in
    λ e. rw (← pairs_before-none c.loop-key.members.items) (members-closed _ _ _ (c.loop-key.invariant.passed e) _ _ last.comes last.ends)

pub push_members-returns-clause-leads : goal.push_members-returns-clause-leads
push_members-returns-clause-leads t c = leads-past c.loop-key.invariant.leads c.in_ok-key.ensures.moves

pub push_members-returns-in_err-finish-clause-refused : goal.push_members-returns-in_err-finish-clause-refused
push_members-returns-in_err-finish-clause-refused t c =
    let i = c.loop-key.invariant in
    let first = MatchOption-at_some _ _ _ c.in-Some.is c.in_ok-key.ensures.begun in
    let value = first.value in
    let p = err_from_is_err_and c.from_residual-in_err-finish.result c.from_residual-in_err-finish.ensures.1 in
    rw (p.1, p.2) (λ e. member-within c.args.depth _ _ _ (i.passed e) i.level _ _ _ _ first.comes first.name first.is_key
    (within-at value.comes (within-same (c.begin_member.ensures.keeps.input.buffer ∙ i.keeps.input.buffer) (c.in_err-finish.ensures.refused value.passed value.begun))))

pub push_members-returns-in_err-key-clause-refused : goal.push_members-returns-in_err-key-clause-refused
push_members-returns-in_err-key-clause-refused t c =
    let i = c.loop-key.invariant in
    let p = err_from_is_err_and c.from_residual.result c.from_residual.ensures.1 in
    rw (p.1, p.2) (λ e. members-within _ _ _ _ (i.passed e) i.level _ _ (within-same i.keeps.input.buffer c.in_err-key.ensures.refused))

pub push_members-loop-key-preserved : goal.push_members-loop-key-preserved
push_members-loop-key-preserved t c =
    let i = c.loop-key.invariant in
    let first = MatchOption-at_some _ _ _ c.in-Some.is c.in_ok-key.ensures.begun in
    let value = first.value in
    record {
      keeps = keeps-behind i.keeps c.begin_member.ensures.keeps c.finish.ensures.keeps;
      leads = leads-behind i.leads c.in_ok-key.ensures.moves c.in_ok-finish.ensures.leads;
      went = went-behind _ _ _ _ i.went c.in_ok-key.ensures.shorter c.in_ok-finish.ensures.went;
      inside = λ start inside. member-inside c.args.depth start c.loop-key.parser c.begin_member.new.parser c.finish.new.parser _ _ (i.inside start inside) first c.in_ok-finish.ensures.passes c.finish.ensures.keeps.input;
      level = member-leveled i.level first.comes first.is_key value.comes (c.in_ok-finish.ensures.level value.passed value.begun);
      passed = λ e.
          rw (c.in_ok-append.ensures, map-append, first.bytes)
          (member-passed _ _ _ (i.passed e) _ _ first.comes first.name first.is_key _ _
          (read-at value.comes (c.in_ok-finish.ensures.read value.passed value.begun)));
    }

pub push_members-returns-clause-level : goal.push_members-returns-clause-level
push_members-returns-clause-level t c =
    let last = MatchOption-at_none _ _ c.in_default.is c.in_ok-key.ensures.begun in
    members-leveled c.loop-key.invariant.level last.comes last.ends

pub push_members-loop-key-init : goal.push_members-loop-key-init
push_members-loop-key-init t c = record {
  keeps = keeps-none;
  leads = search rules;
  went = search rules;
  inside = λ start inside. inside;
  level = search rules;
  passed = search rules;
}

pub push_members-returns-in_err-key-clause-keeps : goal.push_members-returns-in_err-key-clause-keeps
push_members-returns-in_err-key-clause-keeps t c = keeps-then _ _ _ c.loop-key.invariant.keeps c.begin_member.ensures.keeps

pub push_members-returns-in_err-finish-clause-keeps : goal.push_members-returns-in_err-finish-clause-keeps
push_members-returns-in_err-finish-clause-keeps t c =
    keeps-behind c.loop-key.invariant.keeps c.begin_member.ensures.keeps c.finish.ensures.keeps

pub push_members-returns-in_err-append-clause-keeps : goal.push_members-returns-in_err-append-clause-keeps
push_members-returns-in_err-append-clause-keeps t c =
    keeps-behind c.loop-key.invariant.keeps c.begin_member.ensures.keeps c.finish.ensures.keeps

pub push_members-returns-clause-keeps : goal.push_members-returns-clause-keeps
push_members-returns-clause-keeps t c = keeps-then _ _ _ c.loop-key.invariant.keeps c.begin_member.ensures.keeps

-- ---- refusals

pub push_items-returns-in_err-item-clause-tells : goal.push_items-returns-in_err-item-clause-tells
push_items-returns-in_err-item-clause-tells t c =
    let p = err_from_is_err_and c.from_residual.result c.from_residual.ensures.1 in
    rw (p.1, p.2) (tells-later (keeps-there c.loop-item.invariant.keeps) c.in_err-item.ensures.tells)

pub push_items-returns-in_err-finish-clause-tells : goal.push_items-returns-in_err-finish-clause-tells
push_items-returns-in_err-finish-clause-tells t c =
    let p = err_from_is_err_and c.from_residual-in_err-finish.result c.from_residual-in_err-finish.ensures.1 in
    let begun = keeps-then _ _ _ c.loop-item.invariant.keeps c.begin_item.ensures.keeps in
    rw (p.1, p.2) (tells-later (keeps-there begun) c.in_err-finish.ensures.tells)

pub push_items-returns-in_err-append-clause-tells : goal.push_items-returns-in_err-append-clause-tells
push_items-returns-in_err-append-clause-tells t c =
    let p = err_from_is_err_and c.from_residual-in_err-append.result c.from_residual-in_err-append.ensures.1 in
    rw (p.1, p.2) (without_memory c.in_ok-finish.ensures.went.free refl)

pub push_members-returns-in_err-key-clause-tells : goal.push_members-returns-in_err-key-clause-tells
push_members-returns-in_err-key-clause-tells t c =
    let p = err_from_is_err_and c.from_residual.result c.from_residual.ensures.1 in
    rw (p.1, p.2) (tells-later (keeps-there c.loop-key.invariant.keeps) c.in_err-key.ensures.tells)

pub push_members-returns-in_err-finish-clause-tells : goal.push_members-returns-in_err-finish-clause-tells
push_members-returns-in_err-finish-clause-tells t c =
    let p = err_from_is_err_and c.from_residual-in_err-finish.result c.from_residual-in_err-finish.ensures.1 in
    let begun = keeps-then _ _ _ c.loop-key.invariant.keeps c.begin_member.ensures.keeps in
    rw (p.1, p.2) (tells-later (keeps-there begun) c.in_err-finish.ensures.tells)

pub push_members-returns-in_err-append-clause-tells : goal.push_members-returns-in_err-append-clause-tells
push_members-returns-in_err-append-clause-tells t c =
    let p = err_from_is_err_and c.from_residual-in_err-append.result c.from_residual-in_err-append.ensures.1 in
    rw (p.1, p.2) (without_memory c.in_ok-finish.ensures.went.free refl)
