-- The first bit of the mask is where the digits end.
use Rattle.std.proofs.Common.{drop, ap, arith}
use lib.Count.{count_trailing_zeros}
use Rattle.facet_format.specs.Inner.Window.{is_no_digit}
use Rattle.facet_format.proofs.NumberSteps.{digits-run}
use Rattle.facet_format.proofs.Windows.{mask_stops, mask_within}
use Rattle.facet_json_reader.proofs.number.some_digits.Goals as goal

pub returns-clause-digits : goal.returns-clause-digits
returns-clause-digits c =
    let d = c.args.input.now in
    let at = c.args.at in
    let mask = c.no_digits-found.ensures in
    let run = mask_stops is_no_digit d at 16 (omega arith) (omega arith) (omega (arith, mask)) in
    omega (arith, run, ap (count_trailing_zeros 64) mask, digits-run (drop at d))

pub returns-clause-some : goal.returns-clause-some
returns-clause-some c =
    let mask = c.no_digits-found.ensures in
    let within = mask_within is_no_digit c.args.input.now c.args.at 16 (omega arith) (omega arith) (omega (arith, mask)) in
    (omega arith, omega (arith, ap (count_trailing_zeros 64) mask, within))
