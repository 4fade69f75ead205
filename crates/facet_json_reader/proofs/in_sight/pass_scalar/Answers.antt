-- The scalar gives its event.
use Rattle.std.proofs.Common.{arith}
use Rattle.facet_json_reader.proofs.Fronts.{scalar-fits, scalar-over}
use Rattle.facet_json_reader.proofs.in_sight.pass_scalar.Goals as goal

pub behind-requires-clause-within : goal.behind-requires-clause-within
behind-requires-clause-within g c =
    let is = c.in_ok-len.ensures.scalar.is in
    (scalar-fits c.args.input.now c.args.from.at c.in_ok-len.len is.value is.there).1

pub returns-clause-over : goal.returns-clause-over
returns-clause-over g c =
    λ stack may after reached.
    let behind = c.behind.ensures in
    scalar-over (g.T.Takes.takes c.args.input.now) c.args.input.now g.L.InLanguage.language stack c.args.from c.behind.result _ _ c.args.place c.in_ok-len.len
    c.in_ok-len.ensures.scalar may after reached behind.last behind.stage (behind.front stack)

pub returns-clause-onward : goal.returns-clause-onward
returns-clause-onward g c =
    let is = c.in_ok-len.ensures.scalar.is in
    let fits = scalar-fits c.args.input.now c.args.from.at c.in_ok-len.len is.value is.there in
    (omega (arith, fits.0, c.behind.ensures.onward), omega (arith, fits.0, fits.1))
