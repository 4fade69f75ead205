-- The decimal is there, where it has a value.
use Rattle.facet_json_reader.proofs.ShortNumbers.{decimal-there}
use Rattle.facet_json_reader.proofs.number.decimal_at.Goals as goal

pub measured_decimal-requires : goal.measured_decimal-requires
measured_decimal-requires c = c.requires.decimal

pub returns : goal.returns
returns c = decimal-there c.args.input.now c.args.at c.args.len c.measured_decimal.result c.requires c.measured_decimal.ensures
