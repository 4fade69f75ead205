use Rattle.std.proofs.Common.{◌≡◌, ℕ, ◌+◌, length, drop, ap, sym, subst, ◌∙◌, true, false, rules, arith}
use Rattle.std.proofs.lemmas.List.{take_rest, drop_all}
use Rattle.std.proofs.lemmas.Result.{err_from_is_err_and}
use Rattle.facet_format.specs.Views.{refusal_of}
use Rattle.facet_json_core.proofs.Refusing.{tells-later}
use Rattle.facet_json_core.proofs.Meaning.Keeping.{keeps-then}
use Rattle.facet_json_core.proofs.Meaning.Refusals.{keeps-there}
use Rattle.facet_json_core.proofs.Meaning.Walks.NextOnWalk.{goes-keeps}
use Rattle.facet_json_tree.specs.Inner.PointerParts.{before_slash}
use Rattle.facet_json_tree.proofs.PointerSteps.{next-within}
use Rattle.facet_json_core.proofs.TakenNext.{stays-put}
use Rattle.facet_json.proofs.PointersFollowed.{AreFollowed, finds-same, followed-none, followed-more, followed-past, followed-lacks, followed-all}
use Rattle.facet_json.proofs.pointer.follow.Goals as goal

pub loop-start-init : goal.loop-start-init
loop-start-init c = record {
  within = omega arith;
  followed = λ names is. followed-none c.args.parser.now c.args.pointer.now names is;
  keeps = goes-keeps _ _ (stays-put c.args.parser.now);
}

pub returns-in_err-find_child-clause-lacks : goal.returns-in_err-find_child-clause-lacks
returns-in_err-find_child-clause-lacks c =
    let p = err_from_is_err_and c.from_residual.result c.from_residual.ensures.1 in
    rw (p.1, p.2) (λ names is. followed-lacks _ _ _ names (refusal_of c.in_err-find_child.field-0.0) (c.loop-start.invariant.followed names is) c.in_err-find_child.ensures.lacks)

pub returns-in_err-find_child-clause-keeps : goal.returns-in_err-find_child-clause-keeps
returns-in_err-find_child-clause-keeps c = keeps-then _ _ _ c.loop-start.invariant.keeps c.find_child.ensures.keeps

pub returns-in_err-find_child-clause-tells : goal.returns-in_err-find_child-clause-tells
returns-in_err-find_child-clause-tells c =
    let p = err_from_is_err_and c.from_residual.result c.from_residual.ensures.1 in
    rw (p.1, p.2) (tells-later (keeps-there c.loop-start.invariant.keeps) c.in_err-find_child.ensures.tells)

pub returns-clause-finds : goal.returns-clause-finds
returns-clause-finds c = λ names is.
    let pointer = c.args.pointer.now in
    followed-all _ _ _ names (c.loop-start.invariant.followed names is) (drop_all c.loop-start.start pointer c.loop-start-test.false)

pub returns-then-not-branch-clause-finds : goal.returns-then-not-branch-clause-finds
returns-then-not-branch-clause-finds c = λ names is.
    let pointer = c.args.pointer.now in
    let start = c.loop-start.start in
    let missing : c.in_ok-find_child.field-0 ≡ false = search rules in
    let token_is : c.first_token-token.result.now ≡ before_slash (drop (start + 1) pointer) =
    c.first_token-token.ensures ∙ ap before_slash (take_rest pointer (start + 1)) in
    followed-past _ _ _ pointer start c.loop-start-test.true names (c.loop-start.invariant.followed names is)
    (finds-same _ _ _ _ _ _ token_is missing c.in_ok-find_child.ensures.finds)

pub loop-start-preserved : goal.loop-start-preserved
loop-start-preserved c =
    let pointer = c.args.pointer.now in
    let start = c.loop-start.start in
    let new = c.find_child.new.parser in
    let there : c.in_ok-find_child.field-0 ≡ true = search rules in
    let token_is : c.first_token-token.result.now ≡ before_slash (drop (start + 1) pointer) =
    c.first_token-token.ensures ∙ ap before_slash (take_rest pointer (start + 1)) in
    let len = ap length token_is in
    record {
      within = omega (arith, len, next-within pointer start c.loop-start-test.true);
      followed = λ names is.
          let more = followed-more _ _ _ pointer start c.loop-start-test.true names (c.loop-start.invariant.followed names is)
          (finds-same _ _ _ _ _ _ token_is there c.in_ok-find_child.ensures.finds) in
          subst (λ (n : ℕ). AreFollowed c.args.parser.now new (drop (start + (1 + n)) pointer) names) (sym len) more;
      keeps = keeps-then _ _ _ c.loop-start.invariant.keeps c.find_child.ensures.keeps;
    }
