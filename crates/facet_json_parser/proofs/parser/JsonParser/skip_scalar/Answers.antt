-- What the lookahead skips at once is a move.
use Rattle.std.proofs.Common.{◌∙◌, refl, sym}
use Rattle.facet_json_parser.specs.Lookahead.{spot_of}
use Rattle.facet_json_parser.specs.Views.{lookahead_of}
use Rattle.facet_json_parser.proofs.AnswersAreMoves.{no_refusal, none-made}
use Rattle.facet_json_parser.proofs.ParserWithin.{ready-within}
use Rattle.facet_json_parser.proofs.PartsArePassed.{skip-answers}
use Rattle.facet_json_parser.proofs.parser.JsonParser.skip_scalar.Goals as goal

pub returns-clause-skipped : goal.returns-clause-skipped
returns-clause-skipped c done =
    let refusal = no_refusal c.self.inside.refusal (sym c.is_some.ensures ∙ c.if-is_some.false) in
    let none = none-made c.args.self.now _ (sym c.self.view_is) refusal in
    skip-answers _ c.args.self.now (spot_of (lookahead_of c.skip_scalar.new.self)) c.self.view_is none (c.skip_scalar.ensures.passed done)

pub returns-clause-within : goal.returns-clause-within
returns-clause-within c = ready-within _ _ _ _ _ _ _ c.args.self.now c.self.invariant.0 refl c.self.view_is

pub returns-then-is_some-clause-within : goal.returns-then-is_some-clause-within
returns-then-is_some-clause-within c = ready-within _ _ _ _ _ _ _ c.args.self.now c.self.invariant.0 refl c.self.view_is
