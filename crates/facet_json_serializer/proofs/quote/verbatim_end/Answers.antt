-- A window whose bytes are all plain is passed, and in another the run ends, as in the last one.
use Rattle.std.proofs.Common.{◌-◌, length, arith}
use Rattle.facet_json_serializer.specs.Inner.Window.{needs_no_escape}
use Rattle.facet_format.proofs.Windows.{run_through, run_stops, run_last, run_within}
use Rattle.facet_json_serializer.proofs.quote.verbatim_end.Goals as goal

pub returns-then-plain-lt16-clause-value : goal.returns-then-plain-lt16-clause-value
returns-then-plain-lt16-clause-value c =
    let plain = c.plain_lanes-plain.ensures in
    let run = run_stops needs_no_escape c.args.bytes.now c.loop-at.at 16 (omega arith) (omega (arith, plain.value)) in
    omega (arith, run, plain.value, c.loop-at.invariant.same)

pub loop-at-preserved : goal.loop-at-preserved
loop-at-preserved c =
    let plain = c.plain_lanes-plain.ensures in
    let run = run_through needs_no_escape c.args.bytes.now c.loop-at.at 16 (omega arith) (omega (arith, plain.value, plain.within)) in
    record {
      within = omega arith;
      same = omega (arith, run, c.loop-at.invariant.same);
    }

pub returns-clause-value : goal.returns-clause-value
returns-clause-value c =
    let bytes = c.args.bytes.now in
    let last = length bytes - 16 in
    let same = c.loop-at.invariant.same in
    let run = run_last needs_no_escape bytes last 16 (omega arith) in
    let within = run_within needs_no_escape bytes c.args.from last (omega arith) (omega (arith, same)) in
    omega (arith, run, within, c.plain_lanes.ensures.value)
