use Rattle.facet_json_command.proofs.Printing.{prints_behind}
use Rattle.facet_json_command.proofs.lines.write_batch.Goals as goal

pub returns-clause-printed : goal.returns-clause-printed
returns-clause-printed g c = prints_behind _ _ _ _ _ _ c.in_ok-write_events.ensures.printed c.write_count.ensures.printed
