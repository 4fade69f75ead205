-- The text is taken as a scalar.
use Rattle.std.proofs.Common.{refl, ap₂, arith}
use Rattle.facet_format.specs.Span.{span_at}
use Rattle.facet_json_reader.specs.Inner.InSight.{not_taken}
use Rattle.facet_json_reader.proofs.EscapedTexts.{escaped-taken}
use Rattle.facet_json_reader.proofs.Fronts.{untold}
use Rattle.facet_json_reader.proofs.in_sight.take_escaped.Goals as goal

pub returns-in_err-end-clause-left : goal.returns-in_err-end-clause-left
returns-in_err-end-clause-left g c = untold _ _ c.from_residual.result

pub take_escaped-requires : goal.take_escaped-requires
take_escaped-requires g c =
    let is = c.in_ok-end.ensures.escaped in
    λ k. ((refl, tt), (omega (arith, is.ordered, is.within), omega (arith, is.ordered)))

pub returns-then-take_escaped-clause-scalar : goal.returns-then-take_escaped-clause-scalar
returns-then-take_escaped-clause-scalar g c =
    let spoken = c.language.ensures in
    let is = c.in_ok-end.ensures in
    let allowed = rw spoken at is.allowed in
    escaped-taken (g.T.Takes.takes c.args.input.now) c.args.input.now g.L.InLanguage.language c.args.at c.in_ok-end.end _ _ _ is.escaped allowed
    (ap₂ span_at c.new.ensures.offset c.new.ensures.len) (c.take_escaped.ensures.taken c.if-take_escaped.true)

pub returns-else-take_escaped-clause-left : goal.returns-else-take_escaped-clause-left
returns-else-take_escaped-clause-left g c = not_taken _ (c.take_escaped.ensures.left c.if-take_escaped.false)
