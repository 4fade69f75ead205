-- What the lookahead passes at once is a move.
use Rattle.std.proofs.Common.{◌∙◌, refl, sym}
use Rattle.facet_format.specs.Views.{span_of}
use Rattle.facet_json_parser.proofs.AnswersAreMoves.{quick-answers}
use Rattle.facet_json_parser.proofs.ParserWithin.{ready-within}
use Rattle.facet_json_parser.proofs.parser.JsonParser.step.Goals as goal

pub returns-clause-passed : goal.returns-clause-passed
returns-clause-passed g c =
    let p = c.self.inside in
    quick-answers (λ r. record { kind = g.W.Wanted.kind r.0; span = span_of r.1 }) p.input.now p.language p.language p.lookahead c.step.new.self p.refusal
    p.points.items p.counter c.args.self.now c.step.result c.self.view_is (sym c.is_some.ensures ∙ c.if-is_some.false) refl c.step.ensures.passed

pub returns-clause-within : goal.returns-clause-within
returns-clause-within g c = ready-within _ _ _ _ _ _ _ c.args.self.now c.self.invariant.0 refl c.self.view_is

pub returns-then-is_some-clause-within : goal.returns-then-is_some-clause-within
returns-then-is_some-clause-within g c = ready-within _ _ _ _ _ _ _ c.args.self.now c.self.invariant.0 refl c.self.view_is
