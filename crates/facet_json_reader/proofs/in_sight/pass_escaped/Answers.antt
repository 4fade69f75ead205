-- The text gives the event of a value.
use Rattle.std.proofs.Common.{arith}
use Rattle.facet_json_reader.specs.Inner.InSight.{not_told}
use Rattle.facet_json_reader.proofs.Fronts.{scalar-fits, value-over}
use Rattle.facet_json_reader.proofs.in_sight.pass_escaped.Goals as goal

pub returns-then-not-takes_value-clause-left : goal.returns-then-not-takes_value-clause-left
returns-then-not-takes_value-clause-left g c = not_told

pub behind_value-requires : goal.behind_value-requires
behind_value-requires g c =
    let is = c.in_ok-len.ensures.scalar.is in
    (scalar-fits c.args.input.now c.args.from.at c.in_ok-len.len is.value is.there).1

pub returns-clause-over : goal.returns-clause-over
returns-clause-over g c =
    λ reached.
    let a = c.args in
    let behind = c.behind_value.ensures in
    value-over (g.T.Takes.takes a.input.now) a.input.now g.L.InLanguage.language a.contexts.now a.from c.behind_value.result _ _ c.in_ok-len.len
    c.in_ok-len.ensures.scalar (c.takes_value.ensures c.if-not-takes_value.false) reached behind.last behind.stage behind.front

pub returns-clause-onward : goal.returns-clause-onward
returns-clause-onward g c =
    let is = c.in_ok-len.ensures.scalar.is in
    let fits = scalar-fits c.args.input.now c.args.from.at c.in_ok-len.len is.value is.there in
    (omega (arith, fits.0, c.behind_value.ensures.onward), omega (arith, fits.0, fits.1))
