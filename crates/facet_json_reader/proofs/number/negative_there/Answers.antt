use Rattle.std.proofs.Common.{◌+◌, arith, rules, w64}
use Rattle.std.proofs.lemmas.Int.{to_z-of_z}
use Rattle.facet_json_reader.proofs.WholeNumbers.{minus-digits, minus-there, digits-some}
use Rattle.facet_json_reader.proofs.number.negative_there.Goals as goal

pub digits_at-requires-clause-digits : goal.digits_at-requires-clause-digits
digits_at-requires-clause-digits c = minus-digits c.args.input.now c.args.at c.in-Some.len c.requires.here c.in-Some.ensures

pub returns-in-Some-negated-clause-there : goal.returns-in-Some-negated-clause-there
returns-in-Some-negated-clause-there c =
    let negative = c.in-Some-negated.ensures in
    let same = to_z-of_z w64 c.in-Some-negated.value (search rules) in
    rw same (minus-there c.args.input.now c.args.at c.in-Some.len c.requires.here c.in-Some.ensures c.digits_at.result c.in-Some-negated.value c.digits_at.ensures negative.0 negative.1)

pub returns-in-Some-negated-clause-digits : goal.returns-in-Some-negated-clause-digits
returns-in-Some-negated-clause-digits c =
    digits-some c.args.input.now (c.args.at + 1) c.in-Some.len (c.args.at + (c.in-Some.len + 1)) c.in-Some.ensures (omega arith)
