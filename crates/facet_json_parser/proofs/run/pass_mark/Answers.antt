-- The token is the next one of the run.
use Rattle.std.proofs.Common.{◌≡◌, arith}
use Rattle.std.proofs.lemmas.Result.{err_from_is_err_and}
use Rattle.facet_format.specs.Event.{ContainerKind}
use Rattle.facet_format.specs.Span.{Span, stop, span_at}
use Rattle.facet_format.specs.Views.{span_of, container_of}
use Rattle.facet_json_token.specs.Views.{mode_of}
use Rattle.facet_json_grammar.specs.Language.{lenient}
use Rattle.facet_json_reader.proofs.CutsAtPlaces.{ends, stands, is_cut}
use Rattle.facet_json_parser.specs.Inner.Leads.{RunComesTo, whole}
use Rattle.facet_json_parser.proofs.RunSteps.{fault-stops, token-goes_on, token-stops}
use Rattle.facet_json_parser.proofs.QuietTokens.{leads-on}
use Rattle.facet_json_parser.proofs.run.pass_mark.Goals as goal
use Rattle.facet_json_parser.proofs.run.pass_mark.Goals.{After-next_token}

-- The run goes on from there.
leads : (c : After-next_token) (kind : ContainerKind) (first : Span) →
    RunComesTo c.args.input.now (mode_of c.args.mode) c.args.contexts.now (span_of c.args.passed) (whole c.args.input.now (mode_of c.args.mode) kind first) →
    RunComesTo c.args.input.now (mode_of c.args.mode) c.args.contexts.now (span_at c.args.from 0) (whole c.args.input.now (mode_of c.args.mode) kind first)
leads c kind first l =
    leads-on c.args.input.now (mode_of c.args.mode) c.args.contexts.now c.in-Some.ensures.0 (container_of c.in-Some.innermost) (span_of c.args.passed) c.args.from _ c.in-Some.ensures.1 l c.requires.on

pub returns-in_err-token-clause-leads : goal.returns-in_err-token-clause-leads
returns-in_err-token-clause-leads c = λ kind first l.
    let at = c.args.from in
    let position : at ≡ stop (span_at at 0) = omega arith in
    let on = leads (goal.at.returns-in_err-token-clause-leads c).After-next_token kind first l in
    let answer = rw c.in_err-token.was at c.next_token.ensures.answer in
    let p = err_from_is_err_and c.from_residual.result c.from_residual.ensures.1 in
    let around = c.in-Some.ensures in
    rw p.1 (fault-stops c.args.input.now (mode_of c.args.mode) kind first (span_of c.args.last) (container_of c.in-Some.innermost) around.0 c.args.contexts.now (span_at at 0) around.1 on c.in_err-token.field-0.0 _ (omega (arith, c.requires.on.ends)) (rw position at answer) p.2)

pub returns-in_err-pass_token-clause-leads : goal.returns-in_err-pass_token-clause-leads
returns-in_err-pass_token-clause-leads c = λ kind first l.
    let at = c.args.from in
    let position : at ≡ stop (span_at at 0) = omega arith in
    let on = leads (goal.at.returns-in_err-pass_token-clause-leads c).After-next_token kind first l in
    let p = err_from_is_err_and c.from_residual-in_err-pass_token.result c.from_residual-in_err-pass_token.ensures.1 in
    let around = c.in-Some.ensures in
    let answer = rw c.in_ok-token.was at c.next_token.ensures.answer in
    let end = rw c.in_ok-token.was at c.next_token.ensures.end in
    rw (p.1, p.2) (token-stops c.args.input.now (mode_of c.args.mode) kind first (span_of c.args.last) (container_of c.in-Some.innermost) around.0 c.args.contexts.now (span_at at 0) around.1 on c.in_ok-token.token (omega (arith, c.requires.on.ends)) (rw position at answer) _ end c.in_err-pass_token.ensures.end (λ k is. c.in_err-pass_token.ensures.token k around.0 is around.1))

pub returns-clause-leads : goal.returns-clause-leads
returns-clause-leads c = λ kind first l.
    let at = c.args.from in
    let position : at ≡ stop (span_at at 0) = omega arith in
    let on = leads (goal.at.returns-clause-leads c).After-next_token kind first l in
    let around = c.in-Some.ensures in
    let answer = rw c.in_ok-token.was at c.next_token.ensures.answer in
    let next = token-goes_on c.args.input.now (mode_of c.args.mode) kind first (span_of c.args.last) (container_of c.in-Some.innermost) around.0 c.args.contexts.now (span_at at 0) around.1 on c.in_ok-token.token (omega (arith, c.requires.on.ends)) (rw position at answer) c.pass_token.new.contexts c.in_ok-pass_token.ensures.end (λ k is. c.in_ok-pass_token.ensures.token k around.0 is around.1) in
    next.leads

pub returns-clause-onward : goal.returns-clause-onward
returns-clause-onward c =
    let answer = rw c.in_ok-token.was at c.next_token.ensures.answer in
    elim (is_cut c.args.input.now c.args.from (lenient (mode_of c.args.mode)) c.in_ok-token.token (omega (arith, c.requires.on.ends)) answer) [
      | ends is_end none ↦ absurd (c.in_ok-pass_token.ensures.end is_end)
      | stands t ↦ (c.requires.on.past, t.past, t.within)
    ]
