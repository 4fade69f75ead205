-- The parser is as far as its reader.
use Rattle.std.proofs.Common.{refl, sym, ◌∙◌, subst}
use Rattle.facet_json_parser.specs.Inner.Sight.{StandsThere}
use Rattle.facet_json_parser.specs.Views.{now_of}
use Rattle.facet_json_parser.proofs.Fronts.{reader-stands}
use Rattle.facet_json_parser.proofs.ParserWithin.{ready-within}
use Rattle.facet_json_parser.proofs.parser.JsonParser.front_there.Goals as goal

pub returns-clause-there : goal.returns-clause-there
returns-clause-there c =
    let p = c.self.inside in
    let is = c.in_ok-front.ensures in
    let within = ready-within _ _ _ _ _ _ _ (now_of p.input.now p.language p.lookahead p.refusal p.points.items p.counter) c.self.invariant.0 refl refl in
    subst (λ now. StandsThere now c.in_ok-front.front) c.self.view_is
    (reader-stands p.input.now p.language p.lookahead p.refusal p.points.items p.counter c.in_ok-front.front (sym c.is_some.ensures ∙ c.if-is_some.false)
    is.held within is.front)
