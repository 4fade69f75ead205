-- What the reader passes, the parser passes.
use Rattle.std.proofs.Common.{refl, sym, ◌∙◌, subst}
use Rattle.facet_json_parser.specs.Inner.Wanted.{PassesMore, none_passed}
use Rattle.facet_json_parser.specs.Views.{now_of}
use Rattle.facet_json_parser.proofs.EventsInSight.{reader-passes}
use Rattle.facet_json_parser.proofs.ParserWithin.{ready-within}
use Rattle.facet_json_parser.proofs.parser.JsonParser.pass_events.Goals as goal

pub returns-then-is_some : goal.returns-then-is_some
returns-then-is_some g c = none_passed

pub returns : goal.returns
returns g c =
    let p = c.self.inside in
    let u = c.pass_in_sight.new.self in
    let takes = g.T.Takes.takes p.input.now in
    let within = ready-within _ _ _ _ _ _ _ (now_of p.input.now p.language p.lookahead p.refusal p.points.items p.counter) c.self.invariant.0 refl refl in
    subst (λ now. PassesMore (g.T.Takes.takes now.buffer) now c.args.takes.now (now_of p.input.now p.language u p.refusal p.points.items p.counter) c.pass_in_sight.new.takes)
    c.self.view_is
    (reader-passes takes p.input.now p.language p.refusal p.points.items p.counter (sym c.is_some.ensures ∙ c.if-is_some.false) p.lookahead u _ _ within
    c.pass_in_sight.ensures.passes)
