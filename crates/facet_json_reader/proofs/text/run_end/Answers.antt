-- A first window in which no byte ends the run is passed, and in another the run ends.
use Rattle.std.proofs.Common.{ap, arith}
use lib.Count.{count_trailing_zeros}
use Rattle.facet_format.proofs.Windows.{mask_through, mask_stops, mask_within}
use Rattle.facet_json_reader.proofs.text.run_end.Goals as goal

pub returns-then-found-ne0-clause-value : goal.returns-then-found-ne0-clause-value
returns-then-found-ne0-clause-value g c =
    let mask = c.first_stops-found.ensures in
    let run = mask_stops (g.E.Ends.ends c.args.least) c.args.buffer.now c.args.from 16 (omega arith) (omega arith) (omega (arith, mask)) in
    omega (arith, run, ap (count_trailing_zeros 64) mask)

pub returns-then-found-ne0-clause-within : goal.returns-then-found-ne0-clause-within
returns-then-found-ne0-clause-within g c =
    let mask = c.first_stops-found.ensures in
    let within = mask_within (g.E.Ends.ends c.args.least) c.args.buffer.now c.args.from 16 (omega arith) (omega arith) (omega (arith, mask)) in
    omega (arith, ap (count_trailing_zeros 64) mask, within)

pub returns-clause-value : goal.returns-clause-value
returns-clause-value g c =
    let run = mask_through (g.E.Ends.ends c.args.least) c.args.buffer.now c.args.from 16 (omega arith) (omega (arith, c.first_stops-found.ensures)) in
    omega (arith, run, c.run_end_out_of_line.ensures.value)
