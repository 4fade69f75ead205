-- Each token is kept, and the scanner stands after it.
use Rattle.std.proofs.Common.{◌<◌, ◌≤◌, [], ◌∷◌, ◌++◌, length, sym, ◌∙◌, subst, arith}
use Rattle.facet_json_scan.specs.Scanner.{first_unread}
use Rattle.facet_json_scan.specs.Inner.Stands.{Stands, IsScanRefused}
use Rattle.facet_json_scan.proofs.Steps.{token-step, rest-step, refusal-step}
use Rattle.facet_json_scan.proofs.reader.scan_ahead.Goals as goal

pub returns-then-not-is_token-clause-scanned : goal.returns-then-not-is_token-clause-scanned
returns-then-not-is_token-clause-scanned c =
    let h = c.loop-token.invariant.stands in
    let step =
    rest-step c.args.buf.now c.loop-token.tokens.items c.loop-token.scanner c.next_token.new.self h c.in-Ok.token
    (sym c.is_token.ensures ∙ c.if-not-is_token.true) (c.in-Ok.ensures.token h.start h.goes_on) in
    (step.0, step.1, c.in-Ok.ensures.mode ∙ c.loop-token.invariant.mode)

step : (c : goal.In_ok-keep-in-Ok) → let s = c.next_token.new.self in
    Stands c.args.buf.now (c.loop-token.tokens.items ++ c.in-Ok.token ∷ []) s ×
    (first_unread c.loop-token.scanner < first_unread s) × (first_unread s ≤ length c.args.buf.now)
step c =
    let h = c.loop-token.invariant.stands in
    token-step c.args.buf.now c.loop-token.tokens.items c.loop-token.scanner c.next_token.new.self h c.in-Ok.token
    (sym c.is_token.ensures ∙ c.if-not-is_token.false) (c.in-Ok.ensures.span, c.in-Ok.ensures.indices)
    (c.in-Ok.ensures.token h.start h.goes_on)

pub loop-token-smaller : goal.loop-token-smaller
loop-token-smaller c = omega (arith, (step c).1, (step c).2)

pub loop-token-preserved : goal.loop-token-preserved
loop-token-preserved c = record {
  stands = subst (λ l. Stands c.args.buf.now l c.next_token.new.self) (sym c.in_ok-keep-in-Ok.ensures.kept) (step c).0;
  mode = c.in-Ok.ensures.mode ∙ c.loop-token.invariant.mode;
}

pub returns-in-Err-clause-scanned : goal.returns-in-Err-clause-scanned
returns-in-Err-clause-scanned c =
    let h = c.loop-token.invariant.stands in
    subst (λ m. IsScanRefused c.args.buf.now m c.loop-token.tokens.items c.in-Err.refusal) c.loop-token.invariant.mode
    (refusal-step c.args.buf.now c.loop-token.tokens.items c.loop-token.scanner c.next_token.new.self h c.in-Err.refusal
    c.in-Err.ensures.span (c.in-Err.ensures.token h.start h.goes_on))
