use Rattle.std.proofs.Common.{map, ap, ◌∙◌}
use Rattle.std.specs.List.{flat_map}
use Rattle.std.proofs.lemmas.Result.{err_from_is_err_and}
use Rattle.facet_format.specs.Views.{event_of}
use Rattle.facet_json_command.specs.Lines.{event_line}
use Rattle.facet_json_command.proofs.Printing.{up_to_more, stops_behind}
use Rattle.facet_json_command.proofs.lines.write_events.Goals as goal

pub loop-event-preserved : goal.loop-event-preserved
loop-event-preserved g c = record {
  printed = up_to_more _ _ _ _ _ _ _ (ap (λ es. flat_map event_line (map event_of es)) c.in-Some.ensures.items)
      c.loop-event.invariant.printed c.in_ok-write_event.ensures.printed;
  unmarked = c.in_ok-write_event.ensures.marks ∙ c.loop-event.invariant.unmarked;
}

pub returns-in_err-write_event-clause-printed : goal.returns-in_err-write_event-clause-printed
returns-in_err-write_event-clause-printed g c =
    let p = err_from_is_err_and c.from_residual.result c.from_residual.ensures.1 in
    rw (p.1, p.2) (stops_behind _ _ _ _ _ c.loop-event.invariant.printed.appended c.in_err-write_event.ensures.printed)
