use Rattle.std.proofs.Common.{◌≡◌, ℕ, Option, false, true, sym, subst, ◌∙◌, rules}
use Rattle.std.proofs.lemmas.Result.{err_from_is_err_and}
use Rattle.facet_format.specs.Views.{refusal_of}
use Rattle.facet_json_core.proofs.Refusing.{comes-then, goes-there, tells-later}
use Rattle.facet_json_core.proofs.Meaning.Keeping.{keeps-then}
use Rattle.facet_json_core.proofs.Meaning.Refusals.{keeps-there}
use Rattle.facet_json_core.proofs.Meaning.Walks.NextOnWalk.{goes-keeps}
use Rattle.facet_json_tree.specs.Pointer.{index}
use Rattle.facet_json_core.proofs.TakenNext.{stays-put}
use Rattle.facet_json.proofs.ItemsPassed.{AreLeft, input-counts, left-all, left-less, left-found, left-none, left-unseen, left-unpassed}
use Rattle.facet_json.proofs.pointer.find_item.Goals as goal

pub loop-left-init : goal.loop-left-init
loop-left-init c = record {
  so_far = left-all (index c.args.token.now) c.args.parser.now _ (input-counts c.args.parser.now _ (index c.args.token.now) c.index_within-left.ensures);
  keeps = goes-keeps _ _ (stays-put c.args.parser.now);
}

pub returns-in_err-take_end-clause-lacks : goal.returns-in_err-take_end-clause-lacks
returns-in_err-take_end-clause-lacks c =
    let p = err_from_is_err_and c.from_residual.result c.from_residual.ensures.1 in
    rw (p.1, p.2) (left-unseen (index c.args.token.now) _ _ _ (refusal_of c.in_err-take_end.field-0.0) c.loop-left.invariant.so_far c.in_err-take_end.ensures.lacks)

pub returns-in_err-take_end-clause-tells : goal.returns-in_err-take_end-clause-tells
returns-in_err-take_end-clause-tells c =
    let p = err_from_is_err_and c.from_residual.result c.from_residual.ensures.1 in
    rw (p.1, p.2) (tells-later (keeps-there c.loop-left.invariant.keeps) c.in_err-take_end.ensures.tells)

pub returns-clause-finds : goal.returns-clause-finds
returns-clause-finds c =
    let ends : c.in_ok-take_end.field-0 ≡ true = search rules in
    left-none (index c.args.token.now) _ _ _ _ c.loop-left.invariant.so_far (c.in_ok-take_end.ensures.taken ends).takes

pub returns-in_err-pass_value-clause-lacks : goal.returns-in_err-pass_value-clause-lacks
returns-in_err-pass_value-clause-lacks c =
    let goes : c.in_ok-take_end.field-0 ≡ false = search rules in
    let stays = c.in_ok-take_end.ensures.stays goes in
    let p = err_from_is_err_and c.from_residual-in_err-pass_value.result c.from_residual-in_err-pass_value.ensures.1 in
    rw (p.1, p.2) (left-unpassed (index c.args.token.now) _ _ _ _ (refusal_of c.in_err-pass_value.field-0.0) c.loop-left.invariant.so_far stays c.in_err-pass_value.ensures.unread)

pub returns-in_err-pass_value-clause-tells : goal.returns-in_err-pass_value-clause-tells
returns-in_err-pass_value-clause-tells c =
    let p = err_from_is_err_and c.from_residual-in_err-pass_value.result c.from_residual-in_err-pass_value.ensures.1 in
    let came = comes-then (keeps-there c.loop-left.invariant.keeps) (goes-there c.take_end.ensures.onward) in
    rw (p.1, p.2) (tells-later came c.in_err-pass_value.ensures.tells)

pub returns-then-is_zero-clause-finds : goal.returns-then-is_zero-clause-finds
returns-then-is_zero-clause-finds c =
    let goes : c.in_ok-take_end.field-0 ≡ false = search rules in
    let stays = c.in_ok-take_end.ensures.stays goes in
    left-found (index c.args.token.now) _ _ _ _ c.loop-left.invariant.so_far stays (sym c.is_zero.ensures ∙ c.if-is_zero.true)

pub loop-left-preserved : goal.loop-left-preserved
loop-left-preserved c =
    let i = c.loop-left.invariant in
    let goes : c.in_ok-take_end.field-0 ≡ false = search rules in
    let stays = c.in_ok-take_end.ensures.stays goes in
    let value = c.in_ok-pass_value.ensures in
    let other = sym c.is_zero.ensures ∙ c.if-is_zero.false in
    let less = left-less (index c.args.token.now) _ _ _ c.pass_value.new.parser _ i.so_far stays other value.read c.take_end.ensures.onward.onward value.shorter in
    record {
      so_far = subst (λ (left : Option ℕ). AreLeft (index c.args.token.now) c.args.parser.now c.pass_value.new.parser left) (sym c.one_less-left.ensures) less;
      keeps = keeps-then _ _ _ (keeps-then _ _ _ i.keeps (goes-keeps _ _ c.take_end.ensures.onward)) value.keeps;
    }
