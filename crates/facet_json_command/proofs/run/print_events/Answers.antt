use Rattle.facet_json_command.proofs.Endings.{no_growth, unread_lists, events_end, events_grow, events_not_usage}
use Rattle.facet_json_command.proofs.run.print_events.Goals as goal

pub returns-in-Ok-clause-ends : goal.returns-in-Ok-clause-ends
returns-in-Ok-clause-ends g c =
    events_not_usage _ _ _ _ _ _ _ c.list_events-written.ensures.listed c.finish.ensures.ends

pub returns-in-Ok-clause-listed : goal.returns-in-Ok-clause-listed
returns-in-Ok-clause-listed g c =
    let lists = rw c.as_slice.ensures.value at c.list_events-written.ensures.listed in
    events_end _ _ _ _ _ _ _ _ c.in-Ok.ensures.bytes lists c.finish.ensures.ends

pub returns-in-Ok-clause-grows : goal.returns-in-Ok-clause-grows
returns-in-Ok-clause-grows g c =
    events_grow _ _ _ _ _ _ _ c.list_events-written.ensures.listed c.finish.ensures.ends

pub returns-in-Err-clause-listed : goal.returns-in-Err-clause-listed
returns-in-Err-clause-listed g c = unread_lists _ _ _ _ c.in-Err.ensures.fault

pub returns-in-Err-clause-grows : goal.returns-in-Err-clause-grows
returns-in-Err-clause-grows g c other = no_growth _
