use Rattle.std.proofs.Common.{◌≡◌, Some, refl, rules}
use Rattle.facet_format.specs.Span.{Span}
use Rattle.facet_format.specs.Cursor.{spans}
use Rattle.facet_json_grammar.specs.Now.{Now, current_span_of}
use Rattle.facet_json_grammar.proofs.MoveIsStep.{move-steps}
use Rattle.facet_json_parser.proofs.AnswersAreMoves.{told-moves}
use Rattle.facet_json_parser.proofs.ParserWithin.{ready-within, told-within}
use Rattle.facet_json_parser.proofs.parser.JsonParserFormatParser.current_span.Goals as goal

told-is : (made now : Now) (s : Span) → made ≡ now → s ≡ current_span_of made → spans (Some s) ≡ spans (Some (current_span_of now))
told-is made now s e same = rw (same, e) refl

pub returns-clause-steps : goal.returns-clause-steps
returns-clause-steps c =
    let told = c.span.ensures _ _ c.self.invariant.0.stands.filled in
    move-steps _ _ _ _ (told-moves _ _ (told-is _ _ _ c.self.view_is told))

pub returns-clause-told : goal.returns-clause-told
returns-clause-told c = told-is _ _ _ c.self.view_is (c.span.ensures _ _ c.self.invariant.0.stands.filled)

pub returns-clause-within : goal.returns-clause-within
returns-clause-within c =
    let known = ready-within _ _ _ _ _ _ _ c.args.self.now c.self.invariant.0 refl c.self.view_is in
    told-within _ c.args.self.now _ c.self.view_is known (c.span.ensures _ _ c.self.invariant.0.stands.filled)

pub returns-clause-given : goal.returns-clause-given
returns-clause-given c = search rules
