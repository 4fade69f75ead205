use Rattle.std.proofs.Common.{arith, rules}
use Rattle.std.proofs.lemmas.Result.{err_from_is_err_and}
use Rattle.facet_format.specs.Views.{span_of}
use Rattle.facet_json_parser.proofs.PassedParts.{value-root, value-ends, value-refused, capture-refused, text-captured, text-refused, key-captures, closing-captures}
use Rattle.facet_json_parser.proofs.passing.capture.Goals as goal

pub returns-in_err-end-in-Value-clause-captures : goal.returns-in_err-end-in-Value-clause-captures
returns-in_err-end-in-Value-clause-captures c =
    λ language s same stands.
    let is = c.in-Value.is in
    let i = rw is at stands in
    let p = err_from_is_err_and c.from_residual.result c.from_residual.ensures.1 in
    let run = rw (← same) at (c.in_err-end-in-Value.ensures.run i.kind i.begins.0 (value-root i.place i.kind i.begins.1)) in
    let r = value-refused c.args.input.now language s (span_of c.args.last) c.in-Value.first i _ run in
    rw (is, p.1, p.2) (capture-refused c.args.input.now language s (span_of c.args.last) c.in-Value.first i _ r)

pub returns-in_err-text-in-Value-clause-captures : goal.returns-in_err-text-in-Value-clause-captures
returns-in_err-text-in-Value-clause-captures c =
    λ language s same stands.
    let is = c.in-Value.is in
    let i = rw is at stands in
    let p = err_from_is_err_and c.from_residual-in_err-text-in-Value.result c.from_residual-in_err-text-in-Value.ensures.1 in
    let run = rw (← same) at (c.in_ok-end-in-Value.ensures.run i.kind i.begins.0 (value-root i.place i.kind i.begins.1)) in
    let ends = value-ends c.args.input.now language s (span_of c.args.last) c.in-Value.first i _ run in
    let finish = c.end.ensures.fits (omega (arith, c.in_ok-end-in-Value.ensures.within)) in
    let text = c.in_err-text-in-Value.ensures in
    rw (is, p.1, p.2) (text-refused c.args.input.now language s (span_of c.args.last) c.in-Value.first i _ ends c.end.result finish _ text.0 text.1)

pub returns-in_ok-text-in-Value-clause-captures : goal.returns-in_ok-text-in-Value-clause-captures
returns-in_ok-text-in-Value-clause-captures c =
    λ language s same stands.
    let is = c.in-Value.is in
    let i = rw is at stands in
    let run = rw (← same) at (c.in_ok-end-in-Value.ensures.run i.kind i.begins.0 (value-root i.place i.kind i.begins.1)) in
    let ends = value-ends c.args.input.now language s (span_of c.args.last) c.in-Value.first i _ run in
    let finish = c.end.ensures.fits (omega (arith, c.in_ok-end-in-Value.ensures.within)) in
    let text = c.in_ok-text-in-Value.ensures in
    rw is (text-captured c.args.input.now language s (span_of c.args.last) c.in-Value.first i _ ends c.end.result finish _ text.0 text.1)

pub returns-in-Key-clause-captures : goal.returns-in-Key-clause-captures
returns-in-Key-clause-captures c =
    λ language s same stands.
    let is = c.in-Key.is in
    rw is (key-captures c.args.input.now language s (span_of c.args.last) c.in-Key.span (rw is at stands) _ c.no_raw.ensures)

pub returns-in-Closing-clause-captures : goal.returns-in-Closing-clause-captures
returns-in-Closing-clause-captures c =
    λ language s same stands.
    let is = c.in-Closing.is in
    rw is (closing-captures c.args.input.now language s (span_of c.args.last) c.in-Closing.span (rw is at stands) _ c.no_raw-in-Closing.ensures)

pub returns-in-Key-clause-within : goal.returns-in-Key-clause-within
returns-in-Key-clause-within c = search rules
