use Rattle.std.proofs.Common.{◌+◌, refl, ap, sym, ◌∙◌, drop, arith}
use Rattle.std.specs.Prelude.{option_map}
use Rattle.std.proofs.lemmas.List.{take_rest, drop_all}
use Rattle.facet_json_tree.specs.Inner.PointerParts.{before_slash}
use Rattle.facet_json_tree.proofs.PointerSteps.{next-ends}
use Rattle.facet_json_document.specs.Nodes.{nodes_from, value_view}
use Rattle.facet_json_document.proofs.PointersSeen.{along-none, along-some, along-all}
use Rattle.facet_json_document.proofs.document.value.Value.named.Goals as goal

pub returns-in_err-found-clause-nodes : goal.returns-in_err-found-clause-nodes
returns-in_err-found-clause-nodes c = λ names is.
    let token_is = c.first_token-token.ensures ∙ ap before_slash (take_rest c.args.pointer.now (c.loop-start.start + 1)) in
    let no_nodes = sym c.child.ensures.nodes ∙ ap (option_map nodes_from) c.in_err-found.was in
    let no_value = sym c.child.ensures.value ∙ ap (option_map value_view) c.in_err-found.was in
    ap (option_map nodes_from) c.from_residual.ensures
    ∙ (along-none c.args.pointer.now c.first_token-token.result.now c.loop-start.start c.loop-start.found names c.args.self.now
    c.loop-start-test.true token_is no_nodes no_value (c.loop-start.invariant.reached names is)).0

pub returns-in_err-found-clause-value : goal.returns-in_err-found-clause-value
returns-in_err-found-clause-value c = λ names is.
    let token_is = c.first_token-token.ensures ∙ ap before_slash (take_rest c.args.pointer.now (c.loop-start.start + 1)) in
    let no_nodes = sym c.child.ensures.nodes ∙ ap (option_map nodes_from) c.in_err-found.was in
    let no_value = sym c.child.ensures.value ∙ ap (option_map value_view) c.in_err-found.was in
    ap (option_map value_view) c.from_residual.ensures
    ∙ (along-none c.args.pointer.now c.first_token-token.result.now c.loop-start.start c.loop-start.found names c.args.self.now
    c.loop-start-test.true token_is no_nodes no_value (c.loop-start.invariant.reached names is)).1

pub loop-start-init : goal.loop-start-init
loop-start-init c = record {
  within = omega arith;
  reached = λ names is. record { others = names; pointer = is; same = refl; nodes = refl };
}

pub loop-start-preserved : goal.loop-start-preserved
loop-start-preserved c =
    let token_is = c.first_token-token.ensures ∙ ap before_slash (take_rest c.args.pointer.now (c.loop-start.start + 1)) in
    let nodes = sym c.child.ensures.nodes ∙ ap (option_map nodes_from) c.in_ok-found.was in
    let value = sym c.child.ensures.value ∙ ap (option_map value_view) c.in_ok-found.was in
    record {
      within = omega (arith, next-ends c.args.pointer.now c.first_token-token.result.now c.loop-start.start c.loop-start-test.true token_is);
      reached = λ names is.
          along-some c.args.pointer.now c.first_token-token.result.now c.loop-start.start c.loop-start.found c.in_ok-found.found names c.args.self.now
          c.loop-start-test.true token_is nodes value (c.loop-start.invariant.reached names is);
    }

pub returns-clause-nodes : goal.returns-clause-nodes
returns-clause-nodes c = λ names is.
    (along-all (drop c.loop-start.start c.args.pointer.now) c.loop-start.found names c.args.self.now
    (c.loop-start.invariant.reached names is) (drop_all c.loop-start.start c.args.pointer.now c.loop-start-test.false)).0

pub returns-clause-value : goal.returns-clause-value
returns-clause-value c = λ names is.
    (along-all (drop c.loop-start.start c.args.pointer.now) c.loop-start.found names c.args.self.now
    (c.loop-start.invariant.reached names is) (drop_all c.loop-start.start c.args.pointer.now c.loop-start-test.false)).1
