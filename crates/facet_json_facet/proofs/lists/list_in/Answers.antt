use Rattle.std.proofs.Common.{◌≡◌, false, true, cond, List, [], ◌∷◌, ◌++◌, map, refl, sym, ap, ◌∙◌, subst, arith, rules}
use Rattle.std.proofs.lemmas.List.{map-append}
use Rattle.std.proofs.lemmas.List.Elements.{All-nil, All-push, All-same}
use Rattle.std.proofs.lemmas.Result.{err_from_is_err_and}
use Rattle.facet_format.specs.Event.{array}
use Rattle.facet_format.specs.Views.{refusal_of}
use Rattle.facet_json_core.proofs.Meaning.Keeping.{keeps-then}
use Rattle.facet_json_core.proofs.Meaning.OneValue.WithinValues.{inside-value, inside-stays}
use Rattle.facet_json_core.proofs.Meaning.Sequences.ListSteps.{ReadSoFar, list-begins, list-none, list-goes_on, list-more, list-unread, list-ends, list-unseen}
use Rattle.facet_json_core.proofs.Meaning.Walks.NextOnWalk.{goes-keeps}
use Rattle.facet_json_core.specs.Refusing.{without_memory}
use Rattle.facet_json_core.proofs.Refusing.{comes-then, goes-there, tells-later}
use Rattle.facet_json_core.proofs.Meaning.Refusals.{keeps-there}
use Rattle.facet_json_facet.proofs.ItemsInSight.{items-more, items-onward}
use Rattle.facet_json_facet.proofs.lists.list_in.Goals as goal

pub returns-in_err-begin_list-clause-unread : goal.returns-in_err-begin_list-clause-unread
returns-in_err-begin_list-clause-unread g c =
    let reading = cond c.args.borrows g.T.Facet.shape.reading_borrowed g.T.Facet.shape.reading in
    let p = err_from_is_err_and c.from_residual.result c.from_residual.ensures.1 in
    rw (p.1, p.2) (list-none reading c.args.parser.now (refusal_of c.in_err-begin_list.field-0.0) c.in_err-begin_list.ensures.refused)

pub loop-items-init : goal.loop-items-init
loop-items-init g c =
    let reading = cond c.args.borrows g.T.Facet.shape.reading_borrowed g.T.Facet.shape.reading in
    let begun = list-begins reading c.args.parser.now c.begin_list.new.parser c.in_ok-begin_list.ensures.begins in
    record {
      way = record {
        so_far =
            subst (λ (vs : List g.T.Facet.View). ReadSoFar reading c.args.parser.now vs c.begin_list.new.parser)
            (sym (ap (map g.T.Facet.view) c.new-items.ensures.items)) begun;
        keeps = goes-keeps _ _ c.begin_list.ensures.onward;
        falls = c.in_ok-begin_list.ensures.shorter;
        inside = c.in_ok-begin_list.ensures.inside;
      };
      owned = λ lent. All-same g.T.Facet.owned _ [] c.new-items.ensures.items (All-nil g.T.Facet.owned);
    }

pub returns-in_err-take_end-clause-unread : goal.returns-in_err-take_end-clause-unread
returns-in_err-take_end-clause-unread g c =
    let reading = cond c.args.borrows g.T.Facet.shape.reading_borrowed g.T.Facet.shape.reading in
    let i = c.loop-items.invariant.way in
    let way = items-more reading _ _ _ _ _ i (c.items_in_sight.ensures.read _ i.inside.stack) in
    let p = err_from_is_err_and c.from_residual-in_err-take_end.result c.from_residual-in_err-take_end.ensures.1 in
    rw (p.1, p.2) (list-unseen reading _ _ _ (refusal_of c.in_err-take_end.field-0.0) way.so_far c.in_err-take_end.ensures.lacks)

pub returns-in_err-take_end-clause-keeps : goal.returns-in_err-take_end-clause-keeps
returns-in_err-take_end-clause-keeps g c =
    let reading = cond c.args.borrows g.T.Facet.shape.reading_borrowed g.T.Facet.shape.reading in
    let i = c.loop-items.invariant.way in
    let way = items-more reading _ _ _ _ _ i (c.items_in_sight.ensures.read _ i.inside.stack) in
    keeps-then _ _ _ way.keeps (goes-keeps _ _ c.take_end.ensures.onward)

pub returns-in_err-take_end-clause-tells : goal.returns-in_err-take_end-clause-tells
returns-in_err-take_end-clause-tells g c =
    let reading = cond c.args.borrows g.T.Facet.shape.reading_borrowed g.T.Facet.shape.reading in
    let i = c.loop-items.invariant.way in
    let way = items-more reading _ _ _ _ _ i (c.items_in_sight.ensures.read _ i.inside.stack) in
    let p = err_from_is_err_and c.from_residual-in_err-take_end.result c.from_residual-in_err-take_end.ensures.1 in
    rw (p.1, p.2) (tells-later (keeps-there way.keeps) c.in_err-take_end.ensures.tells)

pub returns-in_err-value_in-clause-unread : goal.returns-in_err-value_in-clause-unread
returns-in_err-value_in-clause-unread g c =
    let reading = cond c.args.borrows g.T.Facet.shape.reading_borrowed g.T.Facet.shape.reading in
    let i = c.loop-items.invariant.way in
    let way = items-more reading _ _ _ _ _ i (c.items_in_sight.ensures.read _ i.inside.stack) in
    let goes : c.in_ok-take_end.field-0 ≡ false = search rules in
    let stays = c.in_ok-take_end.ensures.stays goes in
    let before = list-goes_on reading _ _ c.take_end.new.parser _ way.so_far stays in
    let p = err_from_is_err_and c.from_residual-in_err-value_in.result c.from_residual-in_err-value_in.ensures.1 in
    rw (p.1, p.2) (list-unread reading _ _ _ (refusal_of c.in_err-value_in.field-0.0) before c.in_err-value_in.ensures.unread)

pub returns-in_err-value_in-clause-keeps : goal.returns-in_err-value_in-clause-keeps
returns-in_err-value_in-clause-keeps g c =
    let reading = cond c.args.borrows g.T.Facet.shape.reading_borrowed g.T.Facet.shape.reading in
    let i = c.loop-items.invariant.way in
    let way = items-more reading _ _ _ _ _ i (c.items_in_sight.ensures.read _ i.inside.stack) in
    keeps-then _ _ _ (keeps-then _ _ _ way.keeps (goes-keeps _ _ c.take_end.ensures.onward)) c.value_in.ensures.keeps

pub returns-in_err-value_in-clause-tells : goal.returns-in_err-value_in-clause-tells
returns-in_err-value_in-clause-tells g c =
    let reading = cond c.args.borrows g.T.Facet.shape.reading_borrowed g.T.Facet.shape.reading in
    let i = c.loop-items.invariant.way in
    let way = items-more reading _ _ _ _ _ i (c.items_in_sight.ensures.read _ i.inside.stack) in
    let p = err_from_is_err_and c.from_residual-in_err-value_in.result c.from_residual-in_err-value_in.ensures.1 in
    let came = comes-then (keeps-there way.keeps) (goes-there c.take_end.ensures.onward) in
    rw (p.1, p.2) (tells-later came c.in_err-value_in.ensures.tells)

pub returns-in_err-push-clause-keeps : goal.returns-in_err-push-clause-keeps
returns-in_err-push-clause-keeps g c =
    let reading = cond c.args.borrows g.T.Facet.shape.reading_borrowed g.T.Facet.shape.reading in
    let i = c.loop-items.invariant.way in
    let way = items-more reading _ _ _ _ _ i (c.items_in_sight.ensures.read _ i.inside.stack) in
    keeps-then _ _ _ (keeps-then _ _ _ way.keeps (goes-keeps _ _ c.take_end.ensures.onward)) c.value_in.ensures.keeps

pub returns-in_err-push-clause-tells : goal.returns-in_err-push-clause-tells
returns-in_err-push-clause-tells g c =
    let p = err_from_is_err_and c.from_residual-in_err-push.result c.from_residual-in_err-push.ensures.1 in
    rw (p.1, p.2) (without_memory c.in_ok-value_in.ensures.free refl)

pub loop-items-preserved : goal.loop-items-preserved
loop-items-preserved g c =
    let reading = cond c.args.borrows g.T.Facet.shape.reading_borrowed g.T.Facet.shape.reading in
    let i = c.loop-items.invariant.way in
    let way = items-more reading _ _ _ _ _ i (c.items_in_sight.ensures.read _ i.inside.stack) in
    let goes : c.in_ok-take_end.field-0 ≡ false = search rules in
    let stays = c.in_ok-take_end.ensures.stays goes in
    let view = g.T.Facet.view in
    let v = c.in_ok-value_in.field-0 in
    let before = list-goes_on reading _ _ c.take_end.new.parser _ way.so_far stays in
    let more = list-more reading _ _ c.value_in.new.parser _ (view v) before c.in_ok-value_in.ensures.read in
    let seen : map view c.push.new.self.items ≡ map view c.items_in_sight.new.items.items ++ view v ∷ [] =
    ap (map view) c.in_ok-push.ensures.items ∙ map-append view c.items_in_sight.new.items.items (v ∷ []) in
    let here = inside-stays array _ _ _ way.inside c.take_end.ensures.onward.input stays.there in
    record {
      way = record {
        so_far = subst (λ (vs : List g.T.Facet.View). ReadSoFar reading c.args.parser.now vs c.value_in.new.parser) (sym seen) more;
        keeps = keeps-then _ _ _ (keeps-then _ _ _ way.keeps (goes-keeps _ _ c.take_end.ensures.onward)) c.value_in.ensures.keeps;
        falls = omega (arith, way.falls, c.take_end.ensures.onward.onward, c.in_ok-value_in.ensures.shorter);
        inside = inside-value array _ _ _ here c.value_in.ensures.keeps.input c.in_ok-value_in.ensures.one_value;
      };
      owned = λ lent.
          All-same g.T.Facet.owned _ _ c.in_ok-push.ensures.items
          (All-push g.T.Facet.owned c.items_in_sight.new.items.items v (c.items_in_sight.ensures.owned lent (c.loop-items.invariant.owned lent))
          (c.in_ok-value_in.ensures.owned lent));
    }

pub loop-items-smaller : goal.loop-items-smaller
loop-items-smaller g c =
    let reading = cond c.args.borrows g.T.Facet.shape.reading_borrowed g.T.Facet.shape.reading in
    let i = c.loop-items.invariant.way in
    let fewer = items-onward reading c.args.parser.now _ _ _ _ (c.items_in_sight.ensures.read _ i.inside.stack) in
    omega (arith, fewer, c.take_end.ensures.onward.onward, c.in_ok-value_in.ensures.shorter)

pub returns-then-branch-clause-read : goal.returns-then-branch-clause-read
returns-then-branch-clause-read g c =
    let reading = cond c.args.borrows g.T.Facet.shape.reading_borrowed g.T.Facet.shape.reading in
    let i = c.loop-items.invariant.way in
    let way = items-more reading _ _ _ _ _ i (c.items_in_sight.ensures.read _ i.inside.stack) in
    let ends : c.in_ok-take_end.field-0 ≡ true = search rules in
    list-ends reading _ _ _ _ way.so_far (c.in_ok-take_end.ensures.taken ends).takes

pub returns-then-branch-clause-owned : goal.returns-then-branch-clause-owned
returns-then-branch-clause-owned g c =
    λ lent. c.items_in_sight.ensures.owned lent (c.loop-items.invariant.owned lent)

pub returns-then-branch-clause-keeps : goal.returns-then-branch-clause-keeps
returns-then-branch-clause-keeps g c =
    let reading = cond c.args.borrows g.T.Facet.shape.reading_borrowed g.T.Facet.shape.reading in
    let i = c.loop-items.invariant.way in
    let way = items-more reading _ _ _ _ _ i (c.items_in_sight.ensures.read _ i.inside.stack) in
    keeps-then _ _ _ way.keeps (goes-keeps _ _ c.take_end.ensures.onward)

pub returns-then-branch-clause-shorter : goal.returns-then-branch-clause-shorter
returns-then-branch-clause-shorter g c =
    let reading = cond c.args.borrows g.T.Facet.shape.reading_borrowed g.T.Facet.shape.reading in
    let i = c.loop-items.invariant.way in
    let way = items-more reading _ _ _ _ _ i (c.items_in_sight.ensures.read _ i.inside.stack) in
    let ends : c.in_ok-take_end.field-0 ≡ true = search rules in
    omega (arith, way.falls, (c.in_ok-take_end.ensures.taken ends).shorter)

pub returns-then-branch-clause-one_value : goal.returns-then-branch-clause-one_value
returns-then-branch-clause-one_value g c =
    let reading = cond c.args.borrows g.T.Facet.shape.reading_borrowed g.T.Facet.shape.reading in
    let i = c.loop-items.invariant.way in
    let way = items-more reading _ _ _ _ _ i (c.items_in_sight.ensures.read _ i.inside.stack) in
    let ends : c.in_ok-take_end.field-0 ≡ true = search rules in
    (c.in_ok-take_end.ensures.taken ends).value _ way.inside

pub returns-then-branch-clause-free : goal.returns-then-branch-clause-free
returns-then-branch-clause-free g c =
    let ends : c.in_ok-take_end.field-0 ≡ true = search rules in
    (c.in_ok-take_end.ensures.taken ends).free

pub returns-in_err-begin_list-clause-owned : goal.returns-in_err-begin_list-clause-owned
returns-in_err-begin_list-clause-owned c = search rules

pub returns-in_err-begin_list-clause-read : goal.returns-in_err-begin_list-clause-read
returns-in_err-begin_list-clause-read c = search rules

pub returns-in_err-begin_list-clause-keeps : goal.returns-in_err-begin_list-clause-keeps
returns-in_err-begin_list-clause-keeps c = search rules

pub returns-in_err-begin_list-clause-shorter : goal.returns-in_err-begin_list-clause-shorter
returns-in_err-begin_list-clause-shorter c = search rules

pub returns-in_err-begin_list-clause-within : goal.returns-in_err-begin_list-clause-within
returns-in_err-begin_list-clause-within c = search rules
