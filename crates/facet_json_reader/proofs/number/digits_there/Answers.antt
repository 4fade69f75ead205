use Rattle.std.proofs.Common.{◌+◌, refl, arith}
use Rattle.facet_json_reader.proofs.WholeNumbers.{digits-alone, digits-there, digits-some}
use Rattle.facet_json_reader.proofs.number.digits_there.Goals as goal

pub digits_at-requires-clause-digits : goal.digits_at-requires-clause-digits
digits_at-requires-clause-digits c =
    digits-alone c.args.input.now c.args.at c.args.first c.in-Some.len c.requires.here c.requires.number c.requires.no_minus c.in-Some.ensures

pub returns-in-Some-clause-there : goal.returns-in-Some-clause-there
returns-in-Some-clause-there c =
    digits-there c.args.input.now c.args.at c.args.first c.in-Some.len c.requires.here c.requires.number c.requires.no_minus c.in-Some.ensures
    c.digits_at.result c.digits_at.ensures (omega arith)

pub returns-in-Some-clause-digits : goal.returns-in-Some-clause-digits
returns-in-Some-clause-digits c = digits-some c.args.input.now c.args.at c.in-Some.len (c.args.at + c.in-Some.len) c.in-Some.ensures refl
