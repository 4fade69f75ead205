use Rattle.std.proofs.Common.{sym, arith, rules, ◌<◌}
use Rattle.std.specs.Prelude.{◌^◌}
use Rattle.facet_json_serializer.proofs.DecimalLengths.{digits_between_powers, one_digit}
use Rattle.facet_json_serializer.proofs.sink.digit_count.Goals as goal

pub returns-then-n-lt10-clause-count : goal.returns-then-n-lt10-clause-count
returns-then-n-lt10-clause-count c = sym (one_digit c.args.n c.if-n-lt10.true)

pub returns-clause-count : goal.returns-clause-count
returns-clause-count c =
    let fits : c.args.n < 2 ^ 64 = search rules in
    omega (arith, digits_between_powers c.ilog10.result c.args.n c.ilog10.ensures.power_le c.ilog10.ensures.next_power_gt fits)
