-- The next token is the run's.
use Rattle.std.proofs.Common.{◌≡◌, ◌<◌, ◌≤◌, length, arith}
use Rattle.std.proofs.lemmas.Result.{err_from_is_err_and}
use Rattle.facet_format.specs.Event.{ContainerKind}
use Rattle.facet_format.specs.Span.{Span, stop, span_at}
use Rattle.facet_format.specs.Views.{span_of, container_of}
use Rattle.facet_json_token.specs.Views.{mode_of}
use Rattle.facet_json_grammar.specs.Language.{lenient}
use Rattle.facet_json_reader.proofs.CutsAtPlaces.{ends, stands, is_cut}
use Rattle.facet_json_parser.specs.Inner.Leads.{RunComesTo, whole}
use Rattle.facet_json_parser.proofs.RunSteps.{fault-stops, token-goes_on, token-stops}
use Rattle.facet_json_parser.proofs.QuietTokens.{leads-on}
use Rattle.facet_json_parser.proofs.run.pass_tokens.Goals as goal
use Rattle.facet_json_parser.proofs.run.pass_tokens.Goals.{After-token_beyond-token, In_ok-pass_token}

pub loop-innermost-init : goal.loop-innermost-init
loop-innermost-init c = record {
  ends = c.requires;
  onward = omega arith;
  leads = λ kind opened d. rw c.replace-contexts.ensures.value d;
}

pub token_beyond-token-requires : goal.token_beyond-token-requires
token_beyond-token-requires c =
    let l = c.loop-innermost in omega (arith, c.end-in-Some.ensures.fits (omega (arith, l.invariant.ends)), l.invariant.ends)

-- The tokens up to where one was cut lead there.
leads : (c : After-token_beyond-token) (kind : ContainerKind) (opened : Span) →
    RunComesTo c.args.input.now (mode_of c.args.mode) c.args.brackets.now (span_of c.args.first) (whole c.args.input.now (mode_of c.args.mode) kind opened) →
    RunComesTo c.args.input.now (mode_of c.args.mode) c.loop-innermost.contexts (span_at c.token_beyond-token.result.0 0) (whole c.args.input.now (mode_of c.args.mode) kind opened)
leads c kind opened d =
    let l = c.loop-innermost in
    let behind = c.end-in-Some.ensures.fits (omega (arith, l.invariant.ends)) in
    leads-on c.args.input.now (mode_of c.args.mode) l.contexts c.in-Some.ensures.0 (container_of c.in-Some.innermost) (span_of l.passed) c.token_beyond-token.result.0 _ c.in-Some.ensures.1 (l.invariant.leads kind opened d) (rw behind at c.token_beyond-token.ensures.on)

-- It stands behind the last one, and fits.
stands-there : (c : In_ok-pass_token) → (c.token_beyond-token.result.0 < stop (span_of c.in_ok-token.token.span)) × (stop (span_of c.in_ok-token.token.span) ≤ length c.args.input.now)
stands-there c =
    let answer = rw c.in_ok-token.was at c.token_beyond-token.ensures.answer in
    elim (is_cut c.args.input.now c.token_beyond-token.result.0 (lenient (mode_of c.args.mode)) c.in_ok-token.token (omega (arith, c.token_beyond-token.ensures.on.ends)) answer) [
      | ends is_end none ↦ absurd (c.in_ok-pass_token.ensures.end is_end)
      | stands t ↦ (t.past, t.within)
    ]

pub returns-in_err-token-clause-leads : goal.returns-in_err-token-clause-leads
returns-in_err-token-clause-leads c = λ kind opened d.
    let l = c.loop-innermost in
    let at = c.token_beyond-token.result.0 in
    let position : at ≡ stop (span_at at 0) = omega arith in
    let on = leads (goal.at.returns-in_err-token-clause-leads c).After-token_beyond-token kind opened d in
    let answer = rw c.in_err-token.was at c.token_beyond-token.ensures.answer in
    let p = err_from_is_err_and c.from_residual.result c.from_residual.ensures.1 in
    let around = c.in-Some.ensures in
    rw p.1 (fault-stops c.args.input.now (mode_of c.args.mode) kind opened (span_of c.args.last) (container_of c.in-Some.innermost) around.0 l.contexts (span_at at 0) around.1 on c.in_err-token.field-0.0 _ (omega (arith, c.token_beyond-token.ensures)) (rw position at answer) p.2)

pub returns-in_err-pass_token-clause-leads : goal.returns-in_err-pass_token-clause-leads
returns-in_err-pass_token-clause-leads c = λ kind opened d.
    let l = c.loop-innermost in
    let at = c.token_beyond-token.result.0 in
    let position : at ≡ stop (span_at at 0) = omega arith in
    let on = leads (goal.at.returns-in_err-pass_token-clause-leads c).After-token_beyond-token kind opened d in
    let p = err_from_is_err_and c.from_residual-in_err-pass_token.result c.from_residual-in_err-pass_token.ensures.1 in
    let around = c.in-Some.ensures in
    let answer = rw c.in_ok-token.was at c.token_beyond-token.ensures.answer in
    let end = rw c.in_ok-token.was at c.token_beyond-token.ensures.end in
    rw (p.1, p.2) (token-stops c.args.input.now (mode_of c.args.mode) kind opened (span_of c.args.last) (container_of c.in-Some.innermost) around.0 l.contexts (span_at at 0) around.1 on c.in_ok-token.token (omega (arith, c.token_beyond-token.ensures.on.ends)) (rw position at answer) _ end c.in_err-pass_token.ensures.end (λ k is. c.in_err-pass_token.ensures.token k around.0 is around.1))

pub loop-innermost-smaller : goal.loop-innermost-smaller
loop-innermost-smaller c =
    let behind = c.end-in-Some.ensures.fits (omega (arith, c.loop-innermost.invariant.ends)) in
    let there = stands-there (goal.at.loop-innermost-smaller c).In_ok-pass_token in
    omega (arith, there.0, there.1, c.token_beyond-token.ensures.on.past, behind)

pub loop-innermost-preserved : goal.loop-innermost-preserved
loop-innermost-preserved c =
    let behind = c.end-in-Some.ensures.fits (omega (arith, c.loop-innermost.invariant.ends)) in
    let there = stands-there (goal.at.loop-innermost-preserved c).In_ok-pass_token in
    let at = c.token_beyond-token.result.0 in
    let position : at ≡ stop (span_at at 0) = omega arith in
    let around = c.in-Some.ensures in
    let answer = rw c.in_ok-token.was at c.token_beyond-token.ensures.answer in
    record {
      ends = there.1;
      onward = omega (arith, there.0, c.token_beyond-token.ensures.on.past, behind, c.loop-innermost.invariant.onward);
      leads = λ kind opened d.
          let on = leads (goal.at.loop-innermost-preserved c).After-token_beyond-token kind opened d in
          let next = token-goes_on c.args.input.now (mode_of c.args.mode) kind opened (span_of c.args.last) (container_of c.in-Some.innermost) around.0 c.loop-innermost.contexts (span_at at 0) around.1 on c.in_ok-token.token (omega (arith, c.token_beyond-token.ensures.on.ends)) (rw position at answer) c.pass_token.new.contexts c.in_ok-pass_token.ensures.end (λ k is. c.in_ok-pass_token.ensures.token k around.0 is around.1) in
          next.leads;
    }
