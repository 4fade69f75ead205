use Rattle.std.proofs.Common.{◌+◌, ap, sym, ◌∙◌, drop, arith}
use Rattle.std.specs.Prelude.{option_map}
use Rattle.std.proofs.lemmas.List.{take_rest, drop_all}
use Rattle.facet_json_tree.specs.Inner.PointerParts.{before_slash}
use Rattle.facet_json_tree.specs.Views.{tree_view}
use Rattle.facet_json_tree.proofs.PointerSteps.{next-none, next-some, next-ends, reached-all}
use Rattle.facet_json_tree.proofs.pointer_mut.named_mut.Goals as goal

pub returns : goal.returns
returns c = λ names is.
    let over = drop_all c.loop-start.start c.args.pointer.now c.loop-start-test.false in
    reached-all (drop c.loop-start.start c.args.pointer.now) (tree_view c.loop-start.found.now) names (tree_view c.args.tree.now)
    (c.loop-start.invariant.reached names is) over

pub loop-start-preserved : goal.loop-start-preserved
loop-start-preserved c =
    let pointer = c.args.pointer.now in
    let start = c.loop-start.start in
    let token = c.first_token-token.result.now in
    let is_first = c.first_token-token.ensures ∙ ap before_slash (take_rest pointer (start + 1)) in
    let t = tree_view c.in_ok-found.field-0.now in
    let here = sym c.child_mut.ensures ∙ ap (option_map (λ t. tree_view t.now)) c.in_ok-found.was in
    let h = c.loop-start-test.true in
    record {
      within = omega (arith, next-ends pointer token start h is_first);
      reached = λ names is.
          let at = c.loop-start.invariant.reached names is in
          next-some pointer token start (tree_view c.loop-start.found.now) t names (tree_view c.args.tree.now) h is_first here at;
    }

pub returns-in_err-found : goal.returns-in_err-found
returns-in_err-found c =
    let pointer = c.args.pointer.now in
    let start = c.loop-start.start in
    let is_first = c.first_token-token.ensures ∙ ap before_slash (take_rest pointer (start + 1)) in
    let nothing = sym c.child_mut.ensures ∙ ap (option_map (λ t. tree_view t.now)) c.in_err-found.was in
    λ names is.
    ap (option_map (λ t. tree_view t.now)) c.from_residual.ensures
    ∙ next-none pointer c.first_token-token.result.now start (tree_view c.loop-start.found.now) names (tree_view c.args.tree.now)
    c.loop-start-test.true is_first nothing (c.loop-start.invariant.reached names is)
