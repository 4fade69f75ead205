-- Each run of a text is text; the text after each run and each escape, and what is refused where a run is no text or no
-- escape stands.
use Rattle.std.proofs.Common.{◌≡◌, ◌+◌, ◌≤◌, arith}
use Rattle.std.proofs.lemmas.Result.{err_from_is_err_and}
use Rattle.std.proofs.lemmas.List.Edits.{length-between}
use Rattle.facet_format.specs.Bytes.{backslash}
use Rattle.facet_json_token.proofs.DecodeSteps.{range-first, step-none, step-run, step-found}
use Rattle.facet_json_token.proofs.FaultSteps.{step-broken, step-lost, says-refuses}
use Rattle.facet_json_token.proofs.Utf8Runs.{run-IsUtf8, found-IsUtf8}
use Rattle.facet_json_token.proofs.decode.push_runs.Goals as goal

pub loop-at-init : goal.loop-at-init
loop-at-init c =
    record {
      ahead = omega arith;
      within = c.requires.in_order;
      utf8 = c.requires.utf8;
      so_far = rw c.requires.empty (step-none c.args.buf.now c.args.start);
    }

pub escape_at-requires-clause-backslash : goal.escape_at-requires-clause-backslash
escape_at-requires-clause-backslash c =
    range-first _ _ _ backslash c.loop-at-test.true c.requires.in_range c.if-buf-at-eq92.true

pub returns-in_err-escape : goal.returns-in_err-escape
returns-in_err-escape c =
    let l = c.loop-at.invariant in
    let e = c.in_err-escape.ensures in
    let told = step-lost _ _ _ _ _ _ l.ahead c.loop-at-test.true c.requires.in_range e.none e.refused l.so_far in
    let r = c.from_residual in
    let p = err_from_is_err_and r.result r.ensures.1 in
    rw p.1 (record { decodes = tt; refused = says-refuses _ _ _ _ _ p.2 told })

pub loop-at-preserved-then-buf-at-eq92 : goal.loop-at-preserved-then-buf-at-eq92
loop-at-preserved-then-buf-at-eq92 c =
    let l = c.loop-at.invariant in
    let size = length-between c.args.buf.now c.loop-at.at c.args.end c.requires.in_range in
    let within : c.loop-at.at + c.in_ok-escape.escape.len ≤ c.args.end = omega (arith, c.in_ok-escape.ensures.len.1, size, l.within) in
    let found = c.in_ok-escape.ensures.found in
    record {
      ahead = omega (arith, l.ahead);
      within = within;
      utf8 = λ is. found-IsUtf8 _ _ _ c.in_ok-escape.escape.character _ within found (l.utf8 is);
      so_far = step-found _ _ _ _ _ _ _ _ l.ahead within found l.so_far c.in_ok-push.ensures.bytes;
    }

pub run_text-requires-clause-utf8 : goal.run_text-requires-clause-utf8
run_text-requires-clause-utf8 c =
    let ends = c.run_end-stop.ensures in
    λ is. (run-IsUtf8 _ _ _ _ ends.ahead ends.within c.requires.in_range ends.stops (c.loop-at.invariant.utf8 is)).0

pub returns-in_err-run_text : goal.returns-in_err-run_text
returns-in_err-run_text c =
    let ends = c.run_end-stop.ensures in
    let l = c.loop-at.invariant in
    let told =
    step-broken _ _ _ _ _ _ _ l.ahead ends.ahead ends.within c.requires.in_range ends.plain ends.stops l.so_far
    c.in_err-run_text.ensures.refused in
    let r = c.from_residual-in_err-run_text in
    let p = err_from_is_err_and r.result r.ensures.1 in
    rw p.1 (record { decodes = tt; refused = says-refuses _ _ _ _ _ p.2 told })

pub loop-at-preserved : goal.loop-at-preserved
loop-at-preserved c =
    let ends = c.run_end-stop.ensures in
    let l = c.loop-at.invariant in
    record {
      ahead = omega (arith, l.ahead, ends.ahead);
      within = ends.within;
      utf8 = λ is. (run-IsUtf8 _ _ _ _ ends.ahead ends.within c.requires.in_range ends.stops (l.utf8 is)).1;
      so_far =
          step-run _ _ _ _ _ _ _ l.ahead ends.ahead ends.plain c.in_ok-run_text.ensures.text c.in_ok-push_str.ensures.bytes l.so_far;
    }

pub returns : goal.returns
returns c =
    let l = c.loop-at.invariant in
    let last : c.loop-at.at ≡ c.args.end = omega (arith, l.within, c.loop-at-test.false) in
    record { decodes = rw last at l.so_far; refused = tt }
