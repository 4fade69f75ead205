-- A window of digits alone is passed, and in another the run ends.
use Rattle.std.proofs.Common.{◌+◌, drop, ap, arith}
use lib.Count.{count_trailing_zeros}
use Rattle.facet_format.specs.Inner.Window.{is_no_digit}
use Rattle.facet_format.proofs.Windows.{mask_through, mask_stops, mask_within}
use Rattle.facet_format.proofs.NumberSteps.{digits-run}
use Rattle.facet_format.proofs.numeral.digits_end.Goals as goal

pub returns-then-found-ne0-clause-end : goal.returns-then-found-ne0-clause-end
returns-then-found-ne0-clause-end c =
    let d = c.args.buffer.now in
    let mask = c.no_digits-found.ensures in
    let run = mask_stops is_no_digit d c.loop-end.end 16 (omega arith) (omega arith) (omega (arith, mask)) in
    omega (arith, run, ap (count_trailing_zeros 64) mask, digits-run (drop c.loop-end.end d), c.loop-end.invariant.same)

pub returns-then-found-ne0-clause-within : goal.returns-then-found-ne0-clause-within
returns-then-found-ne0-clause-within c =
    let mask = c.no_digits-found.ensures in
    omega (arith, ap (count_trailing_zeros 64) mask, mask_within is_no_digit c.args.buffer.now c.loop-end.end 16 (omega arith) (omega arith) (omega (arith, mask)))

pub loop-end-preserved : goal.loop-end-preserved
loop-end-preserved c =
    let d = c.args.buffer.now in
    let at = c.loop-end.end in
    let run = mask_through is_no_digit d at 16 (omega arith) (omega (arith, c.no_digits-found.ensures)) in
    record {
      within = omega arith;
      same = omega (arith, run, digits-run (drop at d), digits-run (drop (at + 16) d), c.loop-end.invariant.same);
    }
