use Rattle.std.proofs.Common.{◌∷◌, ◌∙◌, ap}
use Rattle.std.proofs.lemmas.Result.{err_from_is_err_and}
use Rattle.facet_format.specs.Views.{span_of, container_of}
use Rattle.facet_json_token.specs.Views.{mode_of}
use Rattle.facet_json_parser.proofs.RunSteps.{leads-first, unopened}
use Rattle.facet_json_parser.proofs.RefusedWithin.{answer-within}
use Rattle.facet_json_parser.proofs.OpenRuns.{answers}
use Rattle.facet_json_parser.proofs.run.pass_container.Goals as goal

pub returns-in_err-open_bracket-clause-run : goal.returns-in_err-open_bracket-clause-run
returns-in_err-open_bracket-clause-run c =
    let p = err_from_is_err_and c.from_residual.result c.from_residual.ensures.1 in
    rw (p.1, p.2) (unopened c.args.input.now (mode_of c.args.mode) (container_of c.args.kind) (span_of c.args.first) (span_of c.args.last) _ c.in_err-open_bracket.ensures)

pub returns-clause-run : goal.returns-clause-run
returns-clause-run c =
    answers c.args.input.now (mode_of c.args.mode) (container_of c.args.kind) (span_of c.args.first) (span_of c.args.last) c.pass_open.result
    (c.pass_open.ensures.leads (container_of c.args.kind) (span_of c.args.first)
    (leads-first c.args.input.now (mode_of c.args.mode) c.open_bracket.new.contexts (container_of c.args.kind) (span_of c.args.first) (c.in_ok-open_bracket.ensures ∙ ap (λ s. container_of c.args.kind ∷ s) c.new-contexts.ensures)))

pub returns-in_err-open_bracket-clause-refused : goal.returns-in_err-open_bracket-clause-refused
returns-in_err-open_bracket-clause-refused c =
    answer-within c.args.input.now (mode_of c.args.mode) _ (span_of c.args.last) c.from_residual.result (returns-in_err-open_bracket-clause-run c) c.requires

pub returns-clause-refused : goal.returns-clause-refused
returns-clause-refused c =
    answer-within c.args.input.now (mode_of c.args.mode) _ (span_of c.args.last) c.pass_open.result (returns-clause-run c) c.requires
