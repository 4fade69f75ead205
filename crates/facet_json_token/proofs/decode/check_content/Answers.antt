-- What each run and each escape says of the text, and the fault where a run is no text or no escape stands.
use Rattle.std.proofs.Common.{◌≡◌, ◌+◌, ◌≤◌, [], refl, arith}
use Rattle.std.proofs.lemmas.Result.{err_from_is_err_and}
use Rattle.std.proofs.lemmas.List.Edits.{length-between}
use Rattle.facet_format.specs.Bytes.{backslash}
use Rattle.facet_json_token.proofs.DecodeLaws.{decoded-decodes}
use Rattle.facet_json_token.proofs.DecodeSteps.{range-first, step-none, step-run, step-found}
use Rattle.facet_json_token.proofs.FaultSteps.{step-broken, step-lost}
use Rattle.facet_json_token.proofs.decode.check_content.Goals as goal

pub loop-at-init : goal.loop-at-init
loop-at-init c =
    record { ahead = omega arith; within = c.requires.in_order; so_far = ([], step-none c.args.buf.now c.args.start) }

pub escape_at-requires-clause-backslash : goal.escape_at-requires-clause-backslash
escape_at-requires-clause-backslash c =
    range-first _ _ _ backslash c.loop-at-test.true c.requires.in_range c.if-buf-at-eq92.true

pub returns-in_err-escape : goal.returns-in_err-escape
returns-in_err-escape c =
    let l = c.loop-at.invariant in
    let e = c.in_err-escape.ensures in
    let told = step-lost _ _ _ _ _ _ l.ahead c.loop-at-test.true c.requires.in_range e.none e.refused l.so_far.1 in
    let r = c.from_residual in
    let p = err_from_is_err_and r.result r.ensures.1 in
    rw (p.1, p.2) (record { text = tt; refused = told })

pub loop-at-preserved-then-buf-at-eq92 : goal.loop-at-preserved-then-buf-at-eq92
loop-at-preserved-then-buf-at-eq92 c =
    let l = c.loop-at.invariant in
    let size = length-between c.args.buf.now c.loop-at.at c.args.end c.requires.in_range in
    let within : c.loop-at.at + c.in_ok-escape.escape.len ≤ c.args.end = omega (arith, c.in_ok-escape.ensures.len.1, size, l.within) in
    let next = step-found _ _ _ _ _ _ _ _ l.ahead within c.in_ok-escape.ensures.found l.so_far.1 refl in
    record { ahead = omega (arith, l.ahead); within = within; so_far = (_, next) }

pub returns-in_err-run_at : goal.returns-in_err-run_at
returns-in_err-run_at c =
    let ends = c.run_end-stop.ensures in
    let l = c.loop-at.invariant in
    let e = c.in_err-run_at.ensures.refused in
    let told =
    step-broken _ _ _ _ _ _ _ l.ahead ends.ahead ends.within c.requires.in_range ends.plain ends.stops l.so_far.1 e in
    let r = c.from_residual-in_err-run_at in
    let p = err_from_is_err_and r.result r.ensures.1 in
    rw (p.1, p.2) (record { text = tt; refused = told })

pub loop-at-preserved : goal.loop-at-preserved
loop-at-preserved c =
    let ends = c.run_end-stop.ensures in
    let l = c.loop-at.invariant in
    let passed = step-run _ _ _ _ _ _ _ l.ahead ends.ahead ends.plain c.in_ok-run_at.ensures.text refl l.so_far.1 in
    record { ahead = omega (arith, l.ahead, ends.ahead); within = ends.within; so_far = (_, passed) }

pub returns : goal.returns
returns c =
    let l = c.loop-at.invariant in
    let last : c.loop-at.at ≡ c.args.end = omega (arith, l.within, c.loop-at-test.false) in
    let done = rw last at l.so_far.1 in
    record { text = rw (decoded-decodes _ _ done) refl; refused = tt }
