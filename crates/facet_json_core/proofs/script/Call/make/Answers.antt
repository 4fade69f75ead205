use Rattle.facet_json_parser.proofs.AnswersAreMoves.{told-moves}
use Rattle.facet_json_core.proofs.script.Call.make.Goals as goal

pub returns-in-Span : goal.returns-in-Span
returns-in-Span c = rw c.in-Span.is (record {
  moves = told-moves _ _ c.current_span.ensures.told;
  within = c.current_span.ensures.within;
})
