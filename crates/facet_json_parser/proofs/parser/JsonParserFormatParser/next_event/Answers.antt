-- What is passed at once, or token by token, is a move.
use Rattle.std.proofs.Common.{◌≡◌, Some, Ok, refl, sym, ap₂, subst}
use Rattle.facet_format.specs.Cursor.{event, next}
use Rattle.facet_format.specs.Event.{Event}
use Rattle.facet_format.specs.Views.{event_kind_of, event_of, span_of}
use Rattle.facet_json_grammar.specs.Move.{Moves}
use Rattle.facet_json_parser.proofs.AnswersAreMoves.{result-passes, result-over}
use Rattle.facet_json_parser.proofs.ParserWithin.{moved, result-lowers}
use Rattle.facet_json_parser.proofs.parser.JsonParserFormatParser.next_event.Goals as goal

pub returns : goal.returns
returns c =
    let known = c.step.ensures.within in
    let passed = c.in-Some.ensures.passed in
    let given : event_of c.new.result ≡ record { kind = event_kind_of c.in-Some.kind; span = span_of c.in-Some.span } =
    ap₂ (λ k s. record { kind = k; span = span_of s }) c.new.ensures.kind c.new.ensures.span in
    let move = subst (λ (e : Event). Moves c.args.self.now next (event (Ok (Some e))) c.step.new.self) (sym given) passed in
    let is = moved _ _ known refl move in
    record {
      steps = is.steps;
      lowers = is.lowers;
      moves = move;
      within = is.within;
      onward = is.onward;
      shorter = result-lowers _ _ (Ok (Some c.new.result)) known move;
      next = result-passes _ _ (Ok (Some c.new.result)) move;
      end = result-over _ _ (Ok (Some c.new.result)) move;
    }

pub returns-in_default : goal.returns-in_default
returns-in_default c =
    let known = c.step.ensures.within in
    let move = rw c.in_default.ensures.passed at c.next_apart.ensures in
    let is = moved _ _ known refl move in
    record {
      steps = is.steps;
      lowers = is.lowers;
      moves = move;
      within = is.within;
      onward = is.onward;
      shorter = result-lowers _ _ c.next_apart.result known move;
      next = result-passes _ _ c.next_apart.result move;
      end = result-over _ _ c.next_apart.result move;
    }
