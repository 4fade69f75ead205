use Rattle.std.proofs.Common.{map, ap, ◌∙◌}
use Rattle.std.specs.List.{flat_map}
use Rattle.std.proofs.lemmas.Result.{err_from_is_err_and}
use Rattle.facet_json_core.specs.ScriptViews.{answer_of}
use Rattle.facet_json_command.specs.Lines.{answer_lines}
use Rattle.facet_json_command.proofs.Printing.{up_to_more, stops_behind}
use Rattle.facet_json_command.proofs.run.write_ahead.Goals as goal

pub loop-answer-preserved : goal.loop-answer-preserved
loop-answer-preserved g c = record {
  printed = up_to_more _ _ _ _ _ _ _ (ap (λ l. flat_map answer_lines (map answer_of l)) c.in-Some.ensures.items)
      c.loop-answer.invariant.printed c.in_ok-write_answer.ensures.printed;
  unmarked = c.in_ok-write_answer.ensures.marks ∙ c.loop-answer.invariant.unmarked;
}

pub returns-in_err-write_answer-clause-printed : goal.returns-in_err-write_answer-clause-printed
returns-in_err-write_answer-clause-printed g c =
    let p = err_from_is_err_and c.from_residual.result c.from_residual.ensures.1 in
    rw (p.1, p.2) (stops_behind _ _ _ _ _ c.loop-answer.invariant.printed.appended c.in_err-write_answer.ensures.printed)
