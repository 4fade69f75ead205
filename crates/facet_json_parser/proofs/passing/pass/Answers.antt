use Rattle.std.proofs.Common.{arith}
use Rattle.facet_format.specs.Views.{span_of}
use Rattle.facet_json_parser.proofs.PassedParts.{value-root, value-skips, key-skips, closing-skips}
use Rattle.facet_json_parser.proofs.passing.pass.Goals as goal

pub returns-in-Value-clause-skips : goal.returns-in-Value-clause-skips
returns-in-Value-clause-skips c =
    λ language s same stands.
    let is = c.in-Value.is in
    let i = rw is at stands in
    let run = rw (← same) at (c.pass_run.ensures.run i.kind i.begins.0 (value-root i.place i.kind i.begins.1)) in
    rw is (value-skips c.args.input.now language s (span_of c.args.last) c.in-Value.first i c.pass_run.result run)

pub returns-in-Key-clause-skips : goal.returns-in-Key-clause-skips
returns-in-Key-clause-skips c =
    λ language s same stands.
    let is = c.in-Key.is in
    let i = rw is at stands in
    let within = rw is at c.requires in
    let colon = rw (← same, c.end.ensures.fits (omega (arith, within))) at (c.colon.ensures.colon s.stack) in
    rw is (key-skips c.args.input.now language s (span_of c.args.last) c.in-Key.span i c.colon.result colon)

pub returns-in-Closing-clause-skips : goal.returns-in-Closing-clause-skips
returns-in-Closing-clause-skips c =
    λ language s same stands.
    let is = c.in-Closing.is in
    rw is (closing-skips c.args.input.now language s (span_of c.args.last) c.in-Closing.span (rw is at stands))
